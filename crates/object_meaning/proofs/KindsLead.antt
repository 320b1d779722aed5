-- Code that leads from one shape to another without a fault of kinds, whatever stands behind it.
use Rattle.std.proofs.Common.{◌≡◌, ◌≤◌, ℕ, zero, suc, ◌+◌, true, List, [], ◌∷◌, ◌++◌, length, map, Some, None, option_map, slice_get, refl, sym, ap, ap₂, ◌∙◌, subst, arith, append_assoc, append-nil, length-append, le-leb, eq-eqb, unwrap_or, if◌then◌else◌}
use Rattle.std.specs.Option.{option_and_then}
use Rattle.std.proofs.lemmas.List.{map-append}
use Rattle.core_terms.specs.Types.{Ty, BoolTy, NamedTy}
use Rattle.core_terms.proofs.TypingComplete.{both, same_self}
use Rattle.core_terms.specs.Instructions.{Instruction, Switch, Branch, Jump}
use Rattle.core_terms.specs.Bodies.{Body}
use Rattle.core_terms.specs.GeneratedCode.{laid, places}
use Rattle.core_terms.specs.CodeShapes.{Shape, shape}
use Rattle.core_terms.specs.Kinds.{same_types, same_shape, Way, way, ways_by_tag, ways, Known, Unreached, Reached, Clashing, met, reach, reach_all, fault_or, first_fault}

types_self : (ts : List Ty) → same_types ts ts ≡ true
types_self [] = refl
types_self (t ∷ ts) = both _ _ (same_self t) (types_self ts)

shape_self : (s : Shape) → same_shape s s ≡ true
shape_self s = both _ _ (types_self s.locals) (types_self s.operands)

-- what is known already stays
pub met_again : (s : Shape) → met (Reached s) s ≡ Reached s
met_again s = ap (λ b. if b then Reached s else Clashing) (shape_self s)

-- what is known of code none of which is reached, and of code whose first instruction alone is reached
abbrev pub blank : List Instruction → List Known
blank is = map (λ (i : Instruction). Unreached) is

abbrev pub front : Shape → List Instruction → List Known
front s [] = []
front s (i ∷ is) = Reached s ∷ blank is

abbrev pub Filled : List Instruction → Type 0
Filled [] = ⊥
Filled (i ∷ is) = Unit {0}

pub filled_behind : (c : List Instruction) (i : Instruction) (is : List Instruction) → Filled (c ++ i ∷ is)
filled_behind [] i is = tt
filled_behind (j ∷ c) i is = tt

pub filled_front : (c d : List Instruction) → Filled c → Filled (c ++ d)
filled_front [] d h = elim h [ ]
filled_front (i ∷ c) d h = tt

length_blank : (c : List Instruction) → length (blank c) ≡ length c
length_blank [] = refl
length_blank (i ∷ c) = ap suc (length_blank c)

length_front : (s : Shape) (c : List Instruction) → length (front s c) ≡ length c
length_front s [] = refl
length_front s (i ∷ c) = ap suc (length_blank c)

pub front_append : (s : Shape) (c d : List Instruction) → Filled c → front s (c ++ d) ≡ front s c ++ blank d
front_append s [] d h = elim h [ ]
front_append s (i ∷ c) d h = ap (λ l. Reached s ∷ l) (map-append (λ (i : Instruction). Unreached) c d)

reach_mid : (pre : List Known) (s : Shape) (k : Known) (ks : List Known) (n : ℕ) → length pre ≡ n → reach n s (pre ++ k ∷ ks) ≡ Some (pre ++ met k s ∷ ks)
reach_mid [] s k ks zero e = refl
reach_mid (j ∷ pre) s k ks (suc n) e = let e : length pre ≡ n = omega (arith, e) in ap (option_map (λ l. j ∷ l)) (reach_mid pre s k ks n e)
reach_mid [] s k ks (suc n) e = absurd (omega (arith, e))
reach_mid (j ∷ pre) s k ks zero e = absurd (omega (arith, e))

-- a list of ways is gone one by one
all_in : (w : Way) (ws : List Way) (ks mid after : List Known) → length w.at.locals ≤ 255 → reach w.passed w.at ks ≡ Some mid → reach_all ws mid ≡ Some after → reach_all (w ∷ ws) ks ≡ Some after
all_in w ws ks mid after h e f =
    ap (λ b. if b then option_and_then (reach_all ws) (reach w.passed w.at ks) else None) (le-leb (length w.at.locals) 255 h)
    ∙ ap (option_and_then (reach_all ws)) e ∙ f

module _ (B : Body) (z : Ty) where
  -- no instruction of these is at fault, wherever they stand
  abbrev pub Free : List Instruction → List Known → Type 0
  Free is ks = (p : ℕ) → first_fault B z is p ks ≡ None

  pub step : (i : Instruction) (is : List Instruction) (s : Shape) (ws : List Way) (ks after : List Known) → ways B z i s.locals s.operands ≡ Some ws → reach_all ws ks ≡ Some after
      → Free is after → Free (i ∷ is) (Reached s ∷ ks)
  step i is s ws ks after w r f p =
      ap (λ o. fault_or B z (option_and_then (λ ws. reach_all ws ks) o) p (first_fault B z is (suc p))) w
      ∙ ap (λ o. fault_or B z o p (first_fault B z is (suc p))) r
      ∙ f (suc p)

  -- The code leads from a shape to another one: behind it all goes on as if that were reached, and nothing else is.
  abbrev pub Leads : List Instruction → Shape → Shape → Type 0
  Leads c s u = (rest : List Instruction) (k : Known) (more : List Known) → met k u ≡ Reached u → Free rest (Reached u ∷ more) → Free (c ++ rest) (front s c ++ k ∷ more)

  pub single : (i : Instruction) (s u : Shape) → ways B z i s.locals s.operands ≡ Some (record { passed = 0; at = u } ∷ []) → length u.locals ≤ 255 → Leads (i ∷ []) s u
  single i s u w h rest k more m f =
      step i rest s (record { passed = 0; at = u } ∷ []) (k ∷ more) (Reached u ∷ more) w
      (all_in (record { passed = 0; at = u }) [] (k ∷ more) (met k u ∷ more) (Reached u ∷ more) h refl (ap (λ k. Some (k ∷ more)) m)) f

  pub seq : (s u v : Shape) (c d : List Instruction) → Filled c → Filled d → Leads c s u → Leads d u v → Leads (c ++ d) s v
  seq s u v c [] x y a b rest k more m f = elim y [ ]
  seq s u v c (j ∷ js) x y a b rest k more m f =
      subst (λ l. Free l (front s (c ++ j ∷ js) ++ k ∷ more)) (sym (append_assoc c (j ∷ js) rest))
      (subst (λ l. Free (c ++ (j ∷ js ++ rest)) l) (sym (ap (λ l. l ++ k ∷ more) (front_append s c (j ∷ js) x) ∙ append_assoc (front s c) (blank (j ∷ js)) (k ∷ more)))
      (a (j ∷ js ++ rest) Unreached (blank js ++ k ∷ more) refl (b rest k more m f)))

  pub nothing_behind : (s u : Shape) (c : List Instruction) → Leads c s u → Leads (c ++ []) s u
  nothing_behind s u c a = subst (λ l. Leads l s u) (sym (append-nil c)) a

  -- a jump to where it is known already, or will be: behind the code d
  jumps : (u : Shape) (d : List Known) (rest : List Instruction) (n : ℕ) (k : Known) (more : List Known) → length d ≡ n → met k u ≡ Reached u → length u.locals ≤ 255
      → Free rest (d ++ Reached u ∷ more) → Free (Jump n ∷ rest) (Reached u ∷ (d ++ k ∷ more))
  jumps u d rest n k more e m h f =
      step (Jump n) rest u (record { passed = n; at = u } ∷ []) (d ++ k ∷ more) (d ++ Reached u ∷ more) refl
      (all_in (record { passed = n; at = u }) [] (d ++ k ∷ more) (d ++ met k u ∷ more) (d ++ Reached u ∷ more) h (reach_mid d u k more n e) (ap (λ k. Some (d ++ k ∷ more)) m)) f

  pub choice : (env os : List Ty) (u : Shape) (c d : List Instruction) → length env ≤ 255 → length u.locals ≤ 255 → Filled c → Filled d → Leads c (shape env os) u → Leads d (shape env os) u
      → Leads (Branch (length c + 1) ∷ (c ++ Jump (length d) ∷ d)) (shape env (BoolTy ∷ os)) u
  choice env os u [] d h g x y a b rest k more m f = elim x [ ]
  choice env os u (i ∷ is) [] h g x y a b rest k more m f = elim y [ ]
  choice env os u (i ∷ is) (j ∷ js) h g x y a b rest k more m f =
      let c = i ∷ is in
      let d = j ∷ js in
      let s = shape env os in
      let tail = k ∷ more in
      let known : blank (c ++ Jump (length d) ∷ d) ++ tail ≡ blank c ++ Unreached ∷ (blank d ++ tail) =
      ap (λ l. l ++ tail) (map-append (λ (i : Instruction). Unreached) c (Jump (length d) ∷ d)) ∙ append_assoc (blank c) (blank (Jump (length d) ∷ d)) tail in
      let first : List Known = front s c ++ Unreached ∷ (blank d ++ tail) in
      let second : List Known = front s c ++ Unreached ∷ (front s d ++ tail) in
      let at_second : reach (length c + 1) s first ≡ Some second =
      ap (reach (length c + 1) s) (sym (append_assoc (front s c) (Unreached ∷ []) (blank d ++ tail)))
      ∙ reach_mid (front s c ++ Unreached ∷ []) s Unreached (blank js ++ tail) (length c + 1) (length-append (front s c) (Unreached ∷ []) ∙ ap (λ n. n + 1) (length_front s c))
      ∙ ap Some (append_assoc (front s c) (Unreached ∷ []) (front s d ++ tail)) in
      subst (λ l. Free ((Branch (length c + 1) ∷ (c ++ Jump (length d) ∷ d)) ++ rest) (Reached (shape env (BoolTy ∷ os)) ∷ l)) (sym known)
      (step (Branch (length c + 1)) ((c ++ Jump (length d) ∷ d) ++ rest) (shape env (BoolTy ∷ os)) (way 0 env os ∷ way (length c + 1) env os ∷ [])
      (blank c ++ Unreached ∷ (blank d ++ tail)) second refl
      (all_in (way 0 env os) (way (length c + 1) env os ∷ []) (blank c ++ Unreached ∷ (blank d ++ tail)) first second h refl
      (all_in (way (length c + 1) env os) [] first second second h at_second refl))
      (subst (λ l. Free l second) (sym (append_assoc c (Jump (length d) ∷ d) rest))
      (a (Jump (length d) ∷ d ++ rest) Unreached (front s d ++ tail) refl
      (jumps u (front s d) (d ++ rest) (length d) k more (length_front s d) m g
      (b rest (Reached u) more (met_again u) f)))))

  -- ARMS
  -- what is known of arms, where the first instruction of each is reached, and nothing else
  abbrev arms_front : List Ty → List Ty → List (List Ty) → List (List Instruction) → List Known
  arms_front env os (c ∷ cs) (code ∷ []) = front (shape (env ++ c) os) code
  arms_front env os (c ∷ cs) (code ∷ (d ∷ later)) = front (shape (env ++ c) os) code ++ Unreached ∷ arms_front env os cs (d ∷ later)
  arms_front env os cs codes = []

  -- each arm, at least one, leads from its constructor's fields as the last locals
  abbrev pub AllLead : List Ty → List Ty → Shape → List (List Ty) → List (List Instruction) → Type 0
  AllLead env os u (c ∷ cs) (code ∷ []) = Filled code × Leads code (shape (env ++ c) os) u × (length (env ++ c) ≤ 255) × (cs ≡ [])
  AllLead env os u (c ∷ cs) (code ∷ (d ∷ later)) = Filled code × Leads code (shape (env ++ c) os) u × (length (env ++ c) ≤ 255) × AllLead env os u cs (d ∷ later)
  AllLead env os u cs codes = ⊥

  length_arms : (env os : List Ty) (u : Shape) (cs : List (List Ty)) (codes : List (List Instruction)) → AllLead env os u cs codes → length (arms_front env os cs codes) ≡ length (laid codes)
  length_arms env os u (c ∷ cs) (code ∷ []) h = length_front (shape (env ++ c) os) code ∙ ap length (sym (append-nil code))
  length_arms env os u (c ∷ cs) (code ∷ (d ∷ later)) h =
      let s = shape (env ++ c) os in
      length-append (front s code) (Unreached ∷ arms_front env os cs (d ∷ later))
      ∙ ap₂ (λ m n. m + suc n) (length_front s code) (length_arms env os u cs (d ∷ later) h.3)
      ∙ sym (length-append code (Jump (length (laid (d ∷ later))) ∷ laid (d ∷ later)))
  length_arms env os u [] codes h = elim h [ ]
  length_arms env os u (c ∷ cs) [] h = elim h [ ]

  -- the ways of a switch, and what is known when all are gone
  record Switched (env os : List Ty) (cs : List (List Ty)) (codes : List (List Instruction)) (pre tail : List Known) : Type 0 where
    ws : List Way
    are : ways_by_tag env os cs (places (length pre) codes) ≡ Some ws
    gone : reach_all ws (pre ++ (blank (laid codes) ++ tail)) ≡ Some (pre ++ (arms_front env os cs codes ++ tail))

  switched : (env os : List Ty) (u : Shape) (cs : List (List Ty)) (codes : List (List Instruction)) → AllLead env os u cs codes → (pre tail : List Known) → Switched env os cs codes pre tail
  switched env os u (c ∷ []) ([] ∷ []) h pre tail = elim h.0 [ ]
  switched env os u (c ∷ []) ((i ∷ is) ∷ []) h pre tail =
      let s = shape (env ++ c) os in
      let same : blank (laid ((i ∷ is) ∷ [])) ++ tail ≡ Unreached ∷ (blank is ++ tail) = ap (λ l. blank l ++ tail) (append-nil (i ∷ is)) in
      record {
        ws = way (length pre) (env ++ c) os ∷ [];
        are = refl;
        gone =
            ap (λ l. reach_all (way (length pre) (env ++ c) os ∷ []) (pre ++ l)) same
            ∙ all_in (way (length pre) (env ++ c) os) [] (pre ++ Unreached ∷ (blank is ++ tail)) (pre ++ Reached s ∷ (blank is ++ tail)) (pre ++ Reached s ∷ (blank is ++ tail)) h.2
            (reach_mid pre s Unreached (blank is ++ tail) (length pre) refl) refl;
      }
  switched env os u (c ∷ cs) ([] ∷ (d ∷ later)) h pre tail = elim h.0 [ ]
  switched env os u (c ∷ cs) ((i ∷ is) ∷ (d ∷ later)) h pre tail =
      let s = shape (env ++ c) os in
      let code = i ∷ is in
      let L = laid (d ∷ later) in
      let w = way (length pre) (env ++ c) os in
      let same : blank (laid (code ∷ (d ∷ later))) ++ tail ≡ Unreached ∷ (blank is ++ Unreached ∷ (blank L ++ tail)) =
      ap (λ l. l ++ tail) (map-append (λ (i : Instruction). Unreached) code (Jump (length L) ∷ L)) ∙ append_assoc (blank code) (Unreached ∷ blank L) tail in
      let pre' : List Known = pre ++ (front s code ++ Unreached ∷ []) in
      let long : length pre' ≡ length pre + length code + 1 =
      length-append pre (front s code ++ Unreached ∷ []) ∙ ap (λ n. length pre + n) (length-append (front s code) (Unreached ∷ []) ∙ ap (λ n. n + 1) (length_front s code)) ∙ omega arith in
      let moved : (l : List Known) → pre' ++ l ≡ pre ++ (front s code ++ Unreached ∷ l) =
      λ l. append_assoc pre (front s code ++ Unreached ∷ []) l ∙ ap (λ l. pre ++ l) (append_assoc (front s code) (Unreached ∷ []) l) in
      let S = switched env os u cs (d ∷ later) h.3 pre' tail in
      record {
        ws = w ∷ S.ws;
        are = ap (λ n. option_map (λ ws. w ∷ ws) (ways_by_tag env os cs (places n (d ∷ later)))) (sym long) ∙ ap (option_map (λ ws. w ∷ ws)) S.are;
        gone =
            ap (λ l. reach_all (w ∷ S.ws) (pre ++ l)) same
            ∙ all_in w S.ws (pre ++ Unreached ∷ (blank is ++ Unreached ∷ (blank L ++ tail))) (pre ++ (front s code ++ Unreached ∷ (blank L ++ tail)))
            (pre ++ (arms_front env os (c ∷ cs) (code ∷ (d ∷ later)) ++ tail)) h.2
            (reach_mid pre s Unreached (blank is ++ Unreached ∷ (blank L ++ tail)) (length pre) refl)
            (ap (reach_all S.ws) (sym (moved (blank L ++ tail))) ∙ S.gone
            ∙ ap Some (moved (arms_front env os cs (d ∷ later) ++ tail) ∙ ap (λ l. pre ++ l) (sym (append_assoc (front s code) (Unreached ∷ arms_front env os cs (d ∷ later)) tail))));
      }
  switched env os u [] codes h pre tail = elim h [ ]
  switched env os u (c ∷ (e ∷ cs)) (code ∷ []) h pre tail = absurd (omega (arith, ap length h.3))
  switched env os u (c ∷ cs) [] h pre tail = elim h [ ]

  -- the arms one behind the other
  arms_free : (env os : List Ty) (u : Shape) (cs : List (List Ty)) (codes : List (List Instruction)) → AllLead env os u cs codes → length u.locals ≤ 255
      → (rest : List Instruction) (k : Known) (more : List Known) → met k u ≡ Reached u → Free rest (Reached u ∷ more) → Free (laid codes ++ rest) (arms_front env os cs codes ++ k ∷ more)
  arms_free env os u (c ∷ cs) (code ∷ []) h g rest k more m f = subst (λ l. Free (l ++ rest) (front (shape (env ++ c) os) code ++ k ∷ more)) (sym (append-nil code)) (h.1 rest k more m f)
  arms_free env os u (c ∷ cs) (code ∷ (d ∷ later)) h g rest k more m f =
      let s = shape (env ++ c) os in
      let L = laid (d ∷ later) in
      let F = arms_front env os cs (d ∷ later) in
      subst (λ l. Free l ((front s code ++ Unreached ∷ F) ++ k ∷ more)) (sym (append_assoc code (Jump (length L) ∷ L) rest))
      (subst (λ l. Free (code ++ (Jump (length L) ∷ (L ++ rest))) l) (sym (append_assoc (front s code) (Unreached ∷ F) (k ∷ more)))
      (h.1 (Jump (length L) ∷ (L ++ rest)) Unreached (F ++ k ∷ more) refl
      (jumps u F (L ++ rest) (length L) k more (length_arms env os u cs (d ∷ later) h.3) m g
      (arms_free env os u cs (d ∷ later) h.3 g rest (Reached u) more (met_again u) f))))
  arms_free env os u [] codes h g rest k more m f = elim h [ ]
  arms_free env os u (c ∷ cs) [] h g rest k more m f = elim h [ ]

  pub match_leads : (env os : List Ty) (u : Shape) (number : ℕ) (codes : List (List Instruction)) → length u.locals ≤ 255 → AllLead env os u (unwrap_or (slice_get B.types number) []) codes
      → Leads (Switch number (places 0 codes) ∷ laid codes) (shape env (NamedTy number ∷ os)) u
  match_leads env os u number codes g h rest k more m f =
      let cs = unwrap_or (slice_get B.types number) [] in
      let S = switched env os u cs codes h [] (k ∷ more) in
      step (Switch number (places 0 codes)) (laid codes ++ rest) (shape env (NamedTy number ∷ os)) S.ws (blank (laid codes) ++ k ∷ more) (arms_front env os cs codes ++ k ∷ more)
      (ap (λ b. if b then ways_by_tag env os cs (places 0 codes) else None) (eq-eqb number number refl) ∙ S.are) S.gone
      (arms_free env os u cs codes h g rest k more m f)
