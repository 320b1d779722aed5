-- The laws of kinds.
use Rattle.std.specs.Prelude.{◌≡◌, ◌≤◌, true, length, All}
use Rattle.core_terms.specs.ProgramLimits.{most_locals}
use Rattle.core_terms.specs.ProgramSizes.{locals_in}
use Rattle.core_terms.specs.Terms.{Expression, PairE, FstE, SndE, NotE, LenE, AuthE, UnauthE, ConE, ArithE, CompareE, TextCompareE, CatE, LetE, IfE, MatchE, CallE, OperateE, Expressions, NoE, AndE, Arms, NoArm, AndArm, Function, Program}
use Rattle.core_terms.specs.TypingRules.{IsWrittenWell}
use Rattle.core_terms.specs.Bodies.{Body}
use Rattle.core_terms.specs.Accepted.{IsAccepted}
use Rattle.core_terms.specs.Kinds.{kinds_test}
use Rattle.core_terms.specs.GeneratedCode.{written_body}

-- Code that passes the test of kinds is accepted.
abbrev pub KindsAreAccepted : Type 0
KindsAreAccepted = (B : Body) → kinds_test B ≡ true → IsAccepted B

abbrev mutual
  -- each match has an arm: so it is of every text
  pub HasArms : Expression → Type 0
  HasArms (PairE a b x y) = HasArms x × HasArms y
  HasArms (FstE a b x) = HasArms x
  HasArms (SndE a b x) = HasArms x
  HasArms (NotE x) = HasArms x
  HasArms (LenE x) = HasArms x
  HasArms (AuthE t x) = HasArms x
  HasArms (UnauthE t x) = HasArms x
  HasArms (ConE number tag xs) = HaveArmsInRow xs
  HasArms (ArithE op x y) = HasArms x × HasArms y
  HasArms (CompareE op x y) = HasArms x × HasArms y
  HasArms (TextCompareE op x y) = HasArms x × HasArms y
  HasArms (CatE x y) = HasArms x × HasArms y
  HasArms (LetE a x body) = HasArms x × HasArms body
  HasArms (IfE test first other) = HasArms test × HasArms first × HasArms other
  HasArms (MatchE number x arms) = HasArms x × AreSomeArms arms
  HasArms (CallE f args) = HaveArmsInRow args
  HasArms (OperateE op xs) = HaveArmsInRow xs
  HasArms e = Unit {0}

  pub HaveArmsInRow : Expressions → Type 0
  HaveArmsInRow NoE = Unit {0}
  HaveArmsInRow (AndE x rest) = HasArms x × HaveArmsInRow rest

  pub AreSomeArms : Arms → Type 0
  AreSomeArms NoArm = ⊥
  AreSomeArms (AndArm body rest) = HasArms body × HaveArmsBehind rest

  pub HaveArmsBehind : Arms → Type 0
  HaveArmsBehind NoArm = Unit {0}
  HaveArmsBehind (AndArm body rest) = HasArms body × HaveArmsBehind rest

-- a function whose matches have arms, and at each place of which there are at most 255 locals
pub record IsWritten (P : Program) (g : Function) : Type 0 where
  pub arms : HasArms g.body
  pub locals : locals_in P.types (length g.parameters) g.body ≤ most_locals

-- The code of a well-typed program whose functions are so passes the test of kinds.
abbrev pub ProgramsHaveKinds : Type 0
ProgramsHaveKinds = (P : Program) → IsWrittenWell P → All (IsWritten P) P.functions → kinds_test (written_body P) ≡ true
