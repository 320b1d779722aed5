-- Two programs of the library as expressions, each with its text.
use Rattle.std.specs.Prelude.{ℕ, List, [], ◌∷◌, codes, pos}
use Rattle.core_terms.specs.Types.{Ty, UnitTy, IntTy, PairTy, NamedTy, AuthTy}
use Rattle.core_terms.specs.Terms.{Expression, UnitE, IntE, LocalE, PairE, FstE, SndE, AuthE, UnauthE, ConE, ArithE, CompareE, LetE, IfE, MatchE, CallE, Inner, Init, Query, Update, Function, Program}
use Rattle.core_terms.specs.declared.term.Arith.TheVariants.{Sub, Mul, Div}
use Rattle.core_terms.specs.declared.term.Compare.TheVariants.{Eq, Lt, Le}
use Rattle.ideal_meaning.specs.Examples.{operands, arms_of, function, program}

-- of both programs, the types `tree` and `found` by number, and an authenticated tree
abbrev pub tree : Ty
tree = NamedTy 0

abbrev pub found : Ty
found = NamedTy 1

abbrev pub hashed_tree : Ty
hashed_tree = AuthTy tree

-- the answer that there is nothing, and the answer that it is x
abbrev pub missing : Expression
missing = ConE 1 0 (operands [])

abbrev pub found_is : Expression → Expression
found_is x = ConE 1 1 (operands (x ∷ []))

-- a call of a function by its number
abbrev pub calling : ℕ → List Expression → Expression
calling f xs = CallE f (operands xs)

-- A map from ints to ints: a search tree whose nodes are each under a digest, with the key, the value and the two subtrees.
--   type tree = Leaf | Node(int, int, auth tree, auth tree);
--   type found = Missing | Found(int);
--   state auth tree;

--   fun look(t: auth tree, k: int): found = match unauth(t) with
--     | Leaf -> Missing
--     | Node(a, v, l, r) -> if eq(k, a) then Found(v) else if lt(k, a) then look(l, k) else look(r, k) end;
abbrev pub bst_look : Function
bst_look = function (codes "look") Inner (hashed_tree ∷ IntTy ∷ []) found (MatchE 0 (UnauthE tree (LocalE 0)) (arms_of (
    missing
    ∷ IfE (CompareE Eq (LocalE 1) (LocalE 2)) (found_is (LocalE 3))
    (IfE (CompareE Lt (LocalE 1) (LocalE 2)) (calling 0 (LocalE 4 ∷ LocalE 1 ∷ [])) (calling 0 (LocalE 5 ∷ LocalE 1 ∷ [])))
    ∷ [])))

-- an authenticated leaf and an authenticated node
abbrev pub leaf : Expression
leaf = AuthE tree (ConE 0 0 (operands []))

abbrev pub node : (key value left right : Expression) → Expression
node key value left right = AuthE tree (ConE 0 1 (operands (key ∷ value ∷ left ∷ right ∷ [])))

--   fun ins(t: auth tree, k: int, v: int): auth tree = match unauth(t) with
--     | Leaf -> auth(Node(k, v, auth(Leaf), auth(Leaf)))
--     | Node(a, w, l, r) -> if eq(k, a) then auth(Node(a, v, l, r))
--         else if lt(k, a) then auth(Node(a, w, ins(l, k, v), r)) else auth(Node(a, w, l, ins(r, k, v))) end;
abbrev pub bst_ins : Function
bst_ins = function (codes "ins") Inner (hashed_tree ∷ IntTy ∷ IntTy ∷ []) hashed_tree (MatchE 0 (UnauthE tree (LocalE 0)) (arms_of (
    node (LocalE 1) (LocalE 2) leaf leaf
    ∷ IfE (CompareE Eq (LocalE 1) (LocalE 3)) (node (LocalE 3) (LocalE 2) (LocalE 5) (LocalE 6))
    (IfE (CompareE Lt (LocalE 1) (LocalE 3))
    (node (LocalE 3) (LocalE 4) (calling 1 (LocalE 5 ∷ LocalE 1 ∷ LocalE 2 ∷ [])) (LocalE 6))
    (node (LocalE 3) (LocalE 4) (LocalE 5) (calling 1 (LocalE 6 ∷ LocalE 1 ∷ LocalE 2 ∷ []))))
    ∷ [])))

--   init empty(x: unit): auth tree = auth(Leaf);
--   query get(s: auth tree, k: int): found = look(s, k);
--   update put(s: auth tree, e: (int, int)): (auth tree, unit) = (ins(s, fst(e), snd(e)), ());
abbrev pub bst : Program
bst = program ((
    [] ∷ (IntTy ∷ IntTy ∷ hashed_tree ∷ hashed_tree ∷ []) ∷ [])
    ∷ ([] ∷ (IntTy ∷ []) ∷ [])
    ∷ [])
    hashed_tree (
    bst_look
    ∷ bst_ins
    ∷ function (codes "empty") Init (UnitTy ∷ []) hashed_tree leaf
    ∷ function (codes "get") Query (hashed_tree ∷ IntTy ∷ []) found (calling 0 (LocalE 0 ∷ LocalE 1 ∷ []))
    ∷ function (codes "put") Update (hashed_tree ∷ PairTy IntTy IntTy ∷ []) (PairTy hashed_tree UnitTy)
    (PairE hashed_tree UnitTy (calling 1 (LocalE 0 ∷ FstE IntTy IntTy (LocalE 1) ∷ SndE IntTy IntTy (LocalE 1) ∷ [])) UnitE)
    ∷ [])

-- A list of 2^d ints as a tree of digests, with its length; d is brought into 0 to 30.
--   type tree = Tip(int) | Fork(auth tree, auth tree);
--   type found = Missing | Found(int);
--   state (int, auth tree);
abbrev pub tip : Expression → Expression
tip x = AuthE tree (ConE 0 0 (operands (x ∷ [])))

abbrev pub fork : (left right : Expression) → Expression
fork left right = AuthE tree (ConE 0 1 (operands (left ∷ right ∷ [])))

abbrev pub counted_tree : Ty
counted_tree = PairTy IntTy hashed_tree

-- the length and the tree of the first local, the state
abbrev pub count_of_state : Expression
count_of_state = FstE IntTy hashed_tree (LocalE 0)

abbrev pub tree_of_state : Expression
tree_of_state = SndE IntTy hashed_tree (LocalE 0)

--   fun full(d: int): int = if le(d, 0) then 1 else mul(2, full(sub(d, 1)));
abbrev pub merkle_full : Function
merkle_full = function (codes "full") Inner (IntTy ∷ []) IntTy
    (IfE (CompareE Le (LocalE 0) (IntE (pos 0))) (IntE (pos 1)) (ArithE Mul (IntE (pos 2)) (calling 0 (ArithE Sub (LocalE 0) (IntE (pos 1)) ∷ []))))

--   fun fill(n: int, v: int): auth tree = if le(n, 1) then auth(Tip(v))
--     else let t = fill(div(n, 2), v) in auth(Fork(t, t));
abbrev pub merkle_fill : Function
merkle_fill = function (codes "fill") Inner (IntTy ∷ IntTy ∷ []) hashed_tree
    (IfE (CompareE Le (LocalE 0) (IntE (pos 1))) (tip (LocalE 1))
    (LetE hashed_tree (calling 1 (ArithE Div (LocalE 0) (IntE (pos 2)) ∷ LocalE 1 ∷ [])) (fork (LocalE 2) (LocalE 2))))

--   fun look(t: auth tree, n: int, i: int): found = match unauth(t) with
--     | Tip(v) -> Found(v)
--     | Fork(l, r) -> let h = div(n, 2) in if lt(i, h) then look(l, h, i) else look(r, h, sub(i, h)) end;
abbrev pub merkle_look : Function
merkle_look = function (codes "look") Inner (hashed_tree ∷ IntTy ∷ IntTy ∷ []) found (MatchE 0 (UnauthE tree (LocalE 0)) (arms_of (
    found_is (LocalE 3)
    ∷ LetE IntTy (ArithE Div (LocalE 1) (IntE (pos 2))) (IfE (CompareE Lt (LocalE 2) (LocalE 5))
    (calling 2 (LocalE 3 ∷ LocalE 5 ∷ LocalE 2 ∷ []))
    (calling 2 (LocalE 4 ∷ LocalE 5 ∷ ArithE Sub (LocalE 2) (LocalE 5) ∷ [])))
    ∷ [])))

--   fun change(t: auth tree, n: int, i: int, v: int): auth tree = match unauth(t) with
--     | Tip(w) -> auth(Tip(v))
--     | Fork(l, r) -> let h = div(n, 2) in if lt(i, h) then auth(Fork(change(l, h, i, v), r))
--         else auth(Fork(l, change(r, h, sub(i, h), v))) end;
abbrev pub merkle_change : Function
merkle_change = function (codes "change") Inner (hashed_tree ∷ IntTy ∷ IntTy ∷ IntTy ∷ []) hashed_tree (MatchE 0 (UnauthE tree (LocalE 0)) (arms_of (
    tip (LocalE 3)
    ∷ LetE IntTy (ArithE Div (LocalE 1) (IntE (pos 2))) (IfE (CompareE Lt (LocalE 2) (LocalE 6))
    (fork (calling 3 (LocalE 4 ∷ LocalE 6 ∷ LocalE 2 ∷ LocalE 3 ∷ [])) (LocalE 5))
    (fork (LocalE 4) (calling 3 (LocalE 5 ∷ LocalE 6 ∷ ArithE Sub (LocalE 2) (LocalE 6) ∷ LocalE 3 ∷ []))))
    ∷ [])))

--   init make(x: (int, int)): (int, auth tree) =
--     let d = if lt(fst(x), 0) then 0 else if lt(30, fst(x)) then 30 else fst(x) in
--     let n = full(d) in (n, fill(n, snd(x)));
abbrev pub merkle_make : Function
merkle_make = function (codes "make") Init (PairTy IntTy IntTy ∷ []) counted_tree
    (LetE IntTy (IfE (CompareE Lt (FstE IntTy IntTy (LocalE 0)) (IntE (pos 0))) (IntE (pos 0))
    (IfE (CompareE Lt (IntE (pos 30)) (FstE IntTy IntTy (LocalE 0))) (IntE (pos 30)) (FstE IntTy IntTy (LocalE 0))))
    (LetE IntTy (calling 0 (LocalE 1 ∷ [])) (PairE IntTy hashed_tree (LocalE 2) (calling 1 (LocalE 2 ∷ SndE IntTy IntTy (LocalE 0) ∷ [])))))

--   query get(s: (int, auth tree), i: int): found = if lt(i, 0) then Missing
--     else if le(fst(s), i) then Missing else look(snd(s), fst(s), i);
abbrev pub merkle_get : Function
merkle_get = function (codes "get") Query (counted_tree ∷ IntTy ∷ []) found
    (IfE (CompareE Lt (LocalE 1) (IntE (pos 0))) missing
    (IfE (CompareE Le count_of_state (LocalE 1)) missing (calling 2 (tree_of_state ∷ count_of_state ∷ LocalE 1 ∷ []))))

--   update put(s: (int, auth tree), e: (int, int)): ((int, auth tree), unit) = if lt(fst(e), 0) then (s, ())
--     else if le(fst(s), fst(e)) then (s, ()) else ((fst(s), change(snd(s), fst(s), fst(e), snd(e))), ());
abbrev pub merkle_put : Function
merkle_put = function (codes "put") Update (counted_tree ∷ PairTy IntTy IntTy ∷ []) (PairTy counted_tree UnitTy)
    (IfE (CompareE Lt (FstE IntTy IntTy (LocalE 1)) (IntE (pos 0))) (PairE counted_tree UnitTy (LocalE 0) UnitE)
    (IfE (CompareE Le count_of_state (FstE IntTy IntTy (LocalE 1))) (PairE counted_tree UnitTy (LocalE 0) UnitE)
    (PairE counted_tree UnitTy (PairE IntTy hashed_tree count_of_state
    (calling 3 (tree_of_state ∷ count_of_state ∷ FstE IntTy IntTy (LocalE 1) ∷ SndE IntTy IntTy (LocalE 1) ∷ []))) UnitE)))

abbrev pub merkle : Program
merkle = program (
    ((IntTy ∷ []) ∷ (hashed_tree ∷ hashed_tree ∷ []) ∷ [])
    ∷ ([] ∷ (IntTy ∷ []) ∷ [])
    ∷ [])
    counted_tree (merkle_full ∷ merkle_fill ∷ merkle_look ∷ merkle_change ∷ merkle_make ∷ merkle_get ∷ merkle_put ∷ [])
