-- The code of a typed program is accepted.
use Rattle.std.proofs.Common.{◌≡◌, ℕ, true, zero, suc, ◌+◌, List, [], ◌∷◌, ◌++◌, length, Some, unwrap_or, slice_get, refl, sym, ap, ◌∙◌, subst, arith, append_assoc, append-nil, length-append}
use Rattle.core_terms.specs.Types.{Ty, BoolTy, IntTy, TextTy, PairTy, NamedTy, AuthTy, fields_at}
use Rattle.core_terms.specs.Terms.{Expression, UnitE, BoolE, IntE, TextE, LocalE, PairE, FstE, SndE, NotE, LenE, AuthE, UnauthE, ConE, ArithE, CompareE, TextCompareE, CatE, LetE, IfE, MatchE, CallE, OperateE, Operation, VecFill, VecGet, VecPut, operand_types, result_type, Expressions, NoE, AndE, Arms, NoArm, AndArm, Program, function_at}
use Rattle.core_terms.specs.TypingRules.{is_operation, HasType, HaveTypes, HaveArms, IsWrittenWell}
use Rattle.core_terms.specs.Instructions.{Instruction, PushUnit, PushBool, PushInt, PushText, Load, Bind, Unbind, Pair, Fst, Snd, Make, Switch, Branch, Jump, Call, Return, Auth, Unauth, ArithOp, CompareOp, TextCompareOp, Cat, Len, Not}
use Rattle.core_terms.specs.GeneratedCode.{unbind_code, laid, places, operation_code, code_of, code_all, arm_codes, written_body}
use Rattle.core_terms.specs.Accepted.{push_types, Fits, IsFine, IsAccepted}
use Rattle.core_terms.specs.CodeShapes.{Shape, shape}
use Rattle.ideal_meaning.proofs.Parts.{on_fields, in_table}
use Rattle.code_meaning.proofs.Follows.{on_function, function_there, typed_at}
use Rattle.code_meaning.proofs.Follows.{code_found}

abbrev At : List Shape → ℕ → Shape → Type 0
At shapes n s = slice_get shapes n ≡ Some s

past : (xs ys : List Shape) (m n : ℕ) (s : Shape) → length xs ≡ m → At ys n s → At (xs ++ ys) (m + n) s
past [] ys m n s e h = let z : m + n ≡ n = omega (arith, e) in ap (λ n. slice_get ys n) z ∙ h
past (x ∷ xs) ys zero n s e h = absurd (omega (arith, e))
past (x ∷ xs) ys (suc m) n s e h = let l : length xs ≡ m = omega (arith, e) in let z : suc m + n ≡ suc (m + n) = omega arith in ap (λ n. slice_get (x ∷ (xs ++ ys)) n) z ∙ past xs ys m n s l h

module _ (P : Program) (z : Ty) where
  abbrev fits : Instruction → Shape → List Shape → Type 0
  fits i s more = Fits (written_body P) z i s.locals s.operands (λ n ls os. slice_get more n ≡ Some (shape ls os))

  -- code that leads from one shape to another
  record Acc (s u : Shape) (c : List Instruction) : Type 0 where
    shapes : List Shape
    long : length shapes ≡ length c
    starts : (more : List Shape) → At more 0 u → At (shapes ++ more) 0 s
    fine : (rest : List Instruction) (more : List Shape) → At more 0 u → IsFine (written_body P) z rest more → IsFine (written_body P) z (c ++ rest) (shapes ++ more)

  abbrev seq : (s u v : Shape) (c d : List Instruction) → Acc s u c → Acc u v d → Acc s v (c ++ d)
  seq s u v c d a b = record {
    shapes = a.shapes ++ b.shapes;
    long = omega (arith, length-append a.shapes b.shapes, length-append c d, a.long, b.long);
    starts = λ more h. subst (λ l. At l 0 s) (sym (append_assoc a.shapes b.shapes more)) (a.starts (b.shapes ++ more) (b.starts more h));
    fine = λ rest more h f.
        subst (λ l. IsFine (written_body P) z l ((a.shapes ++ b.shapes) ++ more)) (sym (append_assoc c d rest))
        (subst (λ l. IsFine (written_body P) z (c ++ (d ++ rest)) l) (sym (append_assoc a.shapes b.shapes more)) (a.fine (d ++ rest) (b.shapes ++ more) (b.starts more h) (b.fine rest more h f)));
  }

  none : (s : Shape) → Acc s s []
  none s = record { shapes = []; long = refl; starts = λ more h. h; fine = λ rest more h f. f }

  single : (s u : Shape) (i : Instruction) → ((more : List Shape) → At more 0 u → fits i s more) → Acc s u (i ∷ [])
  single s u i h = record { shapes = s ∷ []; long = refl; starts = λ more j. refl; fine = λ rest more j f. (h more j, f) }

  -- a jump past code
  abbrev over : (s u : Shape) (d : List Instruction) → Acc s u d → Acc u u (Jump (length d) ∷ d)
  over s u d b = record {
    shapes = u ∷ b.shapes;
    long = ap suc b.long;
    starts = λ more h. refl;
    fine = λ rest more h f. (let e : length d ≡ length d + 0 = omega arith in ap (λ n. slice_get (b.shapes ++ more) n) e ∙ past b.shapes more (length d) 0 u b.long h, b.fine rest more h f);
  }

  choice : (env os : List Ty) (t : Ty) (c d : List Instruction) → Acc (shape env os) (shape env (t ∷ os)) c → Acc (shape env os) (shape env (t ∷ os)) d
      → Acc (shape env (BoolTy ∷ os)) (shape env (t ∷ os)) (Branch (length c + 1) ∷ (c ++ (Jump (length d) ∷ d)))
  choice env os t c d a b =
      let u = shape env (t ∷ os) in
      let s = shape env os in
      let o = over s u d b in
      let q = seq s u u c (Jump (length d) ∷ d) a o in
      record {
        shapes = shape env (BoolTy ∷ os) ∷ q.shapes;
        long = ap suc q.long;
        starts = λ more h. refl;
        fine = λ rest more h f. (
          (
            q.starts more h,
            subst (λ l. At l (length c + 1) s) (sym (append_assoc a.shapes (u ∷ b.shapes) more)) (past a.shapes (u ∷ (b.shapes ++ more)) (length c) 1 s a.long (b.starts more h)),
          ),
          q.fine rest more h f,
        );
      }

  -- the arms, each reached by its place
  record Laid (env os : List Ty) (t : Ty) (cs : List (List Ty)) (codes : List (List Instruction)) : Type 0 where
    shapes : List Shape
    long : length shapes ≡ length (laid codes)
    jumps : (more : List Shape) → At more 0 (shape env (t ∷ os)) → (tag : ℕ) (ts : List Ty) → slice_get cs tag ≡ Some ts → (start : ℕ)
        → (n : ℕ) × (slice_get (places start codes) tag ≡ Some (start + n)) × At (shapes ++ more) n (shape (env ++ ts) os)
    fine : (rest : List Instruction) (more : List Shape) → At more 0 (shape env (t ∷ os)) → IsFine (written_body P) z rest more → IsFine (written_body P) z (laid codes ++ rest) (shapes ++ more)

  abbrev over_arms : (env os : List Ty) (t : Ty) (cs : List (List Ty)) (codes : List (List Instruction)) → Laid env os t cs codes
      → Acc (shape env (t ∷ os)) (shape env (t ∷ os)) (Jump (length (laid codes)) ∷ laid codes)
  over_arms env os t cs codes L = record {
    shapes = shape env (t ∷ os) ∷ L.shapes;
    long = ap suc L.long;
    starts = λ more h. refl;
    fine = λ rest more h f. (
      let e : length (laid codes) ≡ length (laid codes) + 0 =
          omega arith in ap (λ n. slice_get (L.shapes ++ more) n) e ∙ past L.shapes more (length (laid codes)) 0 (shape env (t ∷ os)) L.long h,
      L.fine rest more h f,
    );
  }

  unbinds : (env c us : List Ty) → Acc (shape (env ++ c) us) (shape env us) (unbind_code (length c))
  unbinds env [] us = subst (λ l. Acc (shape (env ++ []) us) (shape l us) []) (append-nil env) (none (shape (env ++ []) us))
  unbinds env (t ∷ c) us = single _ _ (Unbind (suc (length c))) (λ more h. (env, t ∷ c, refl, refl, h))

  switch : (env os : List Ty) (t : Ty) (number : ℕ) (codes : List (List Instruction)) → Laid env os t (unwrap_or (slice_get P.types number) []) codes
      → Acc (shape env (NamedTy number ∷ os)) (shape env (t ∷ os)) (Switch number (places 0 codes) ∷ laid codes)
  switch env os t number codes L = record {
    shapes = shape env (NamedTy number ∷ os) ∷ L.shapes;
    long = ap suc L.long;
    starts = λ more h. refl;
    fine = λ rest more h f. (
      (
        refl,
        λ tag ts e.
            let j = L.jumps more h tag ts (in_table P.types (λ t v. true) (slice_get P.types number) tag ts e) 0 in
            let n : 0 + j.0 ≡ j.0 = omega arith in
            (j.0, j.1 ∙ ap Some n, j.2),
      ),
      L.fine rest more h f,
    );
  }

  abbrev At_type : List Ty → List Ty → List Instruction → Ty → Type 0
  At_type env os c t = Acc (shape env os) (shape env (t ∷ os)) c

  first_arm : (env os c : List Ty) (l : List Shape) → At l 0 (shape (env ++ c) os) → (tag : ℕ) (ts : List Ty) → slice_get (c ∷ []) tag ≡ Some ts → (start : ℕ)
      → (n : ℕ) × (slice_get (start ∷ []) tag ≡ Some (start + n)) × At l n (shape (env ++ ts) os)
  first_arm env os c l h zero ts e start =
      let s : c ≡ ts = cc in
      let z : start ≡ start + 0 = omega arith in
      (0, ap Some z, h ∙ ap (λ c. Some (shape (env ++ c) os)) s)
  first_arm env os c l h (suc tag) ts e start = absurd (cc)

  arm_at : (env os : List Ty) (t : Ty) (c : List Ty) (cs : List (List Ty)) (code : List Instruction) (later : List (List Instruction)) (L : Laid env os t cs later)
      (xs : List Shape) → length xs ≡ length code → (more : List Shape) → At more 0 (shape env (t ∷ os))
      → At ((xs ++ shape env (t ∷ os) ∷ L.shapes) ++ more) 0 (shape (env ++ c) os) → (tag : ℕ) (ts : List Ty) → slice_get (c ∷ cs) tag ≡ Some ts → (start : ℕ)
      → (n : ℕ) × (slice_get (places start (code ∷ later)) tag ≡ Some (start + n)) × At ((xs ++ shape env (t ∷ os) ∷ L.shapes) ++ more) n (shape (env ++ ts) os)
  arm_at env os t c cs code later L xs l more j h zero ts e start =
      let s : c ≡ ts = cc in
      let z : start ≡ start + 0 = omega arith in
      (0, ap Some z, h ∙ ap (λ c. Some (shape (env ++ c) os)) s)
  arm_at env os t c cs code later L xs l more j h (suc tag) ts e start =
      let r = L.jumps more j tag ts e (start + length code + 1) in
      let z : start + length code + 1 + r.0 ≡ start + (length code + suc r.0) = omega arith in (
        length code + suc r.0,
        r.1 ∙ ap Some z,
        subst (λ l. At l (length code + suc r.0) (shape (env ++ ts) os)) (sym (append_assoc xs (shape env (t ∷ os) ∷ L.shapes) more))
            (past xs (shape env (t ∷ os) ∷ (L.shapes ++ more)) (length code) (suc r.0) (shape (env ++ ts) os) l r.2),
      )

  operation_fits : (op : Operation) (env os : List Ty) (more : List Shape) → is_operation op ≡ true → At more 0 (shape env (result_type op ∷ os))
      → fits (operation_code op) (shape env (push_types (operand_types op) os)) more
  operation_fits (VecFill n t) env os more e h = (e, h)
  operation_fits (VecGet n t) env os more e h = h
  operation_fits (VecPut n t) env os more e h = (refl, h)

  mutual
    acc : (env : List Ty) (e : Expression) (t : Ty) → HasType P env e t → (os : List Ty) → Acc (shape env os) (shape env (t ∷ os)) (code_of P.types e)
    acc env (IfE test x y) t h os = seq _ (shape env (BoolTy ∷ os)) _ _ _ (acc env test BoolTy h.0 os) (choice env os t _ _ (acc env x t h.1 os) (acc env y t h.2 os))
    acc env (LetE a x body) t h os =
        seq _ (shape env (a ∷ os)) _ _ _ (acc env x a h.0 os) (seq _ (shape (env ++ a ∷ []) os) _ (Bind ∷ []) _ (single _ _ Bind (λ more h. h))
        (seq _ (shape (env ++ a ∷ []) (t ∷ os)) _ _ _ (acc (env ++ a ∷ []) body t h.1 os) (single _ _ (Unbind 1) (λ more h. (env, a ∷ [], refl, refl, h)))))
    acc env (PairE a b x y) t h os =
        subst (λ t. Acc (shape env os) (shape env (t ∷ os)) (code_of P.types (PairE a b x y))) h.0
        (seq _ (shape env (a ∷ os)) _ _ _ (acc env x a h.1 os) (seq _ (shape env (b ∷ (a ∷ os))) _ _ _ (acc env y b h.2 (a ∷ os)) (single _ _ Pair (λ more h. h))))
    acc env (UnauthE a x) t h os =
        subst (λ t. Acc (shape env os) (shape env (t ∷ os)) (code_of P.types (UnauthE a x))) h.0
        (seq _ (shape env (AuthTy a ∷ os)) _ _ _ (acc env x (AuthTy a) h.1 os) (single _ _ (Unauth a) (λ more h. (refl, h))))
    acc env (LocalE i) t h os = single _ _ (Load i) (λ more j. (t, h, j))
    acc env UnitE t h os = subst (At_type env os (PushUnit ∷ [])) h (single _ _ PushUnit (λ more h. h))
    acc env (BoolE b) t h os = subst (At_type env os (PushBool b ∷ [])) h (single _ _ (PushBool b) (λ more h. h))
    acc env (IntE n) t h os = subst (At_type env os (PushInt n ∷ [])) h.0 (single _ _ (PushInt n) (λ more j. (h.1, j)))
    acc env (TextE b) t h os = subst (At_type env os (PushText b ∷ [])) h.0 (single _ _ (PushText b) (λ more j. (h.1, h.2, j)))
    acc env (FstE a b x) t h os = subst (At_type env os (code_of P.types (FstE a b x))) h.0
        (seq _ (shape env ((PairTy a b) ∷ os)) _ _ _ (acc env x (PairTy a b) h.1 os) (single _ _ Fst (λ more h. h)))
    acc env (SndE a b x) t h os = subst (At_type env os (code_of P.types (SndE a b x))) h.0
        (seq _ (shape env ((PairTy a b) ∷ os)) _ _ _ (acc env x (PairTy a b) h.1 os) (single _ _ Snd (λ more h. h)))
    acc env (NotE x) t h os = subst (At_type env os (code_of P.types (NotE x))) h.0 (seq _ (shape env (BoolTy ∷ os)) _ _ _ (acc env x BoolTy h.1 os) (single _ _ Not (λ more h. h)))
    acc env (LenE x) t h os = subst (At_type env os (code_of P.types (LenE x))) h.0 (seq _ (shape env (TextTy ∷ os)) _ _ _ (acc env x TextTy h.1 os) (single _ _ Len (λ more h. h)))
    acc env (AuthE a x) t h os = subst (At_type env os (code_of P.types (AuthE a x))) h.0 (seq _ (shape env (a ∷ os)) _ _ _ (acc env x a h.1 os) (single _ _ (Auth a) (λ more h. (refl, h))))
    acc env (ArithE op x y) t h os =
        subst (At_type env os (code_of P.types (ArithE op x y))) h.0
        (seq _ (shape env (IntTy ∷ os)) _ _ _ (acc env x IntTy h.1 os) (seq _ (shape env (IntTy ∷ (IntTy ∷ os))) _ _ _ (acc env y IntTy h.2 (IntTy ∷ os)) (single _ _ (ArithOp op) (λ more h. h))))
    acc env (CompareE op x y) t h os =
        subst (At_type env os (code_of P.types (CompareE op x y))) h.0
        (seq _ (shape env (IntTy ∷ os)) _ _ _ (acc env x IntTy h.1 os) (seq _ (shape env (IntTy ∷ (IntTy ∷ os))) _ _ _ (acc env y IntTy h.2 (IntTy ∷ os)) (single _ _ (CompareOp op) (λ more h. h))))
    acc env (TextCompareE op x y) t h os =
        subst (At_type env os (code_of P.types (TextCompareE op x y))) h.0
        (seq _ (shape env (TextTy ∷ os)) _ _ _ (acc env x TextTy h.1 os)
        (seq _ (shape env (TextTy ∷ (TextTy ∷ os))) _ _ _ (acc env y TextTy h.2 (TextTy ∷ os)) (single _ _ (TextCompareOp op) (λ more h. h))))
    acc env (CatE x y) t h os = subst (At_type env os (code_of P.types (CatE x y))) h.0
        (seq _ (shape env (TextTy ∷ os)) _ _ _ (acc env x TextTy h.1 os) (seq _ (shape env (TextTy ∷ (TextTy ∷ os))) _ _ _ (acc env y TextTy h.2 (TextTy ∷ os)) (single _ _ Cat (λ more h. h))))
    acc env (ConE number tag xs) t h os =
        let r = on_fields P.types (λ t v. true) (fields_at P.types number tag) (λ ts. HaveTypes P env xs ts) h.1 in
        subst (At_type env os (code_of P.types (ConE number tag xs))) h.0
        (seq _ (shape env (push_types r.0 os)) _ _ _ (acc_all env xs r.0 r.2 os) (single _ _ (Make number tag) (λ more j. (r.0, os, r.1, refl, j))))
    acc env (MatchE number x arms) t h os =
        seq _ (shape env (NamedTy number ∷ os)) _ _ _ (acc env x (NamedTy number) h.0 os) (switch env os t number _ (arms_acc env arms (unwrap_or (slice_get P.types number) []) t h.1 os))
    acc env (CallE f args) t h os =
        let there = function_there P.types P.functions f _ h in
        let h = on_function (slice_get P.functions f) (λ g. (g.result ≡ t) × HaveTypes P env args g.parameters) h in
        subst (At_type env os (code_of P.types (CallE f args))) h.0
        (seq _ (shape env (push_types (function_at P f).parameters os)) _ _ _ (acc_all env args (function_at P f).parameters h.1 os)
        (single _ _ (Call f) (λ more j. (os, ap (λ c. push_types c.parameters os) (sym (code_found P f)), j ∙ ap (λ c. Some (shape env (c.result ∷ os))) (sym (code_found P f)), there))))
    acc env (OperateE op xs) t h os =
        subst (At_type env os (code_of P.types (OperateE op xs))) h.0
        (seq _ (shape env (push_types (operand_types op) os)) _ _ _ (acc_all env xs (operand_types op) h.2 os)
        (single _ _ (operation_code op) (λ more j. operation_fits op env os more h.1 j)))

    acc_all : (env : List Ty) (xs : Expressions) (ts : List Ty) → HaveTypes P env xs ts → (os : List Ty) → Acc (shape env os) (shape env (push_types ts os)) (code_all P.types xs)
    acc_all env NoE [] h os = none (shape env os)
    acc_all env NoE (t ∷ ts) h os = elim h [ ]
    acc_all env (AndE x xs) [] h os = elim h [ ]
    acc_all env (AndE x xs) (t ∷ ts) h os = seq _ (shape env (t ∷ os)) _ _ _ (acc env x t h.0 os) (acc_all env xs ts h.1 (t ∷ os))

    arms_acc : (env : List Ty) (arms : Arms) (cs : List (List Ty)) (t : Ty) → HaveArms P env cs arms t → (os : List Ty) → Laid env os t cs (arm_codes P.types arms cs)
    arms_acc env NoArm [] t h os = record { shapes = []; long = refl; jumps = λ more h tag ts e start. absurd (cc); fine = λ rest more h f. f }
    arms_acc env NoArm (c ∷ cs) t h os = elim h [ ]
    arms_acc env (AndArm body arms) [] t h os = elim h [ ]
    arms_acc env (AndArm body NoArm) (c ∷ []) t h os =
        let code = code_of P.types body ++ unbind_code (length c) in
        let u = shape env (t ∷ os) in
        let A = seq (shape (env ++ c) os) (shape (env ++ c) (t ∷ os)) u _ _ (acc (env ++ c) body t h.0 os) (unbinds env c (t ∷ os)) in
        let D = seq (shape (env ++ c) os) u u code [] A (none u) in
        record {
          shapes = D.shapes;
          long = D.long;
          jumps = λ more j tag ts e start. first_arm env os c (D.shapes ++ more) (D.starts more j) tag ts e start;
          fine = D.fine;
        }
    arms_acc env (AndArm body NoArm) (c ∷ (d ∷ cs)) t h os = elim h.1 [ ]
    arms_acc env (AndArm body (AndArm second arms)) (c ∷ []) t h os = elim h.1 [ ]
    arms_acc env (AndArm body (AndArm second arms)) (c ∷ (d ∷ cs)) t h os =
        let code = code_of P.types body ++ unbind_code (length c) in
        let later = arm_codes P.types (AndArm second arms) (d ∷ cs) in
        let u = shape env (t ∷ os) in
        let L = arms_acc env (AndArm second arms) (d ∷ cs) t h.1 os in
        let A = seq (shape (env ++ c) os) (shape (env ++ c) (t ∷ os)) u _ _ (acc (env ++ c) body t h.0 os) (unbinds env c (t ∷ os)) in
        let D = seq (shape (env ++ c) os) u u code (Jump (length (laid later)) ∷ laid later) A (over_arms env os t (d ∷ cs) later L) in
        record {
          shapes = D.shapes;
          long = D.long;
          jumps = λ more j tag ts e start. arm_at env os t c (d ∷ cs) code later L A.shapes A.long more j (D.starts more j) tag ts e start;
          fine = D.fine;
        }

module _ (P : Program) (typed : IsWrittenWell P) where
  pub written_accepted : IsAccepted (written_body P)
  written_accepted f =
      let g = function_at P f in
      let u = shape g.parameters (g.result ∷ []) in
      let A = acc P g.result g.parameters g.body g.result (typed_at P typed f) [] in
      subst (λ g. (shapes : List Shape) × IsFine (written_body P) g.result g.code shapes × (slice_get shapes 0 ≡ Some (shape g.parameters []))) (sym (code_found P f))
      (A.shapes ++ u ∷ [], A.fine (Return ∷ []) (u ∷ []) refl (refl, tt), A.starts (u ∷ []) refl)
