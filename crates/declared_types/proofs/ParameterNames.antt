-- Lemmas of the parameters of a function, one by one.
use Rattle.std.proofs.Common.{◌≡◌, ℕ, suc, ◌+◌, ◌<◌, ◌≤◌, true, false, List, [], ◌∷◌, ◌++◌, length, map, reverse, take, drop, slice_index_or, bytes_eq, nat_lt, sym, ap, ◌∙◌, add-one, arith, le-ltb, lt-ltb, length-take-le, drop-cons}
use Rattle.std.specs.List.{list_any}
use Rattle.std.proofs.lemmas.List.{length-reverse, reverse-append, map-append, length-map, take_more}
use Rattle.auth_syntax.specs.Trees as written
use Rattle.auth_syntax.specs.declared.tree.Parameter.{Parameter}
use Rattle.declared_types.specs.Checking.{FaultAt, is_among}
use Rattle.declared_types.specs.Declarations.{checked_parameters, most_parameters}
use Rattle.declared_types.specs.declared.fault.TypeKind.TheVariants.{Twice, Limit}
use Rattle.declared_types.specs.declared.fault.Limited.TheVariants.{Parameters}
use Rattle.declared_types.proofs.NamesBefore.{among_reverse, among_of, stands_again, one_too_many, may_stand}

-- the names of the first parameters, the last one first
abbrev pub first_names : ℕ → List Parameter → List (List ℕ)
first_names i ps = reverse (map (λ p. p.name.name) (take i ps))

module _ (ps : List Parameter) (i : ℕ) (p : Parameter) (inside : i < length ps) (is : p ≡ slice_index_or ps i p)
    (so_far : checked_parameters [] (map written.parameter_of ps) ≡ checked_parameters (first_names i ps) (map written.parameter_of (drop i ps)))
  where
    next : drop i ps ≡ p ∷ drop (i + 1) ps
    next = rw add-one (drop-cons ps i p inside ∙ ap (λ q. q ∷ drop (suc i) ps) (sym is))

    one : checked_parameters [] (map written.parameter_of ps) ≡ checked_parameters (first_names i ps)
        (written.parameter_of p ∷ map written.parameter_of (drop (i + 1) ps))
    one = so_far ∙ ap (λ l. checked_parameters (first_names i ps) (map written.parameter_of l)) next

    among : is_among p.name.name (first_names i ps) ≡ list_any (λ q. bytes_eq q.name.name p.name.name) (take i ps)
    among = among_reverse p.name.name (map (λ q. q.name.name) (take i ps)) ∙ among_of (λ (q : Parameter). q.name.name) p.name.name (take i ps)

    count : length (first_names i ps) ≡ i
    count =
        length-reverse (map (λ (q : Parameter). q.name.name) (take i ps)) ∙ length-map (take i ps) (λ (q : Parameter). q.name.name)
        ∙ length-take-le i ps (omega arith)

    more : first_names (i + 1) ps ≡ p.name.name ∷ first_names i ps
    more =
        ap (λ l. reverse (map (λ (q : Parameter). q.name.name) l)) (take_more ps i p inside ∙ ap (λ q. take i ps ++ q ∷ []) (sym is))
        ∙ ap reverse (map-append (λ (q : Parameter). q.name.name) (take i ps) (p ∷ []))
        ∙ reverse-append (map (λ (q : Parameter). q.name.name) (take i ps)) (p.name.name ∷ [])

    -- its name stands before
    pub parameter_again : list_any (λ q. bytes_eq q.name.name p.name.name) (take i ps) ≡ true
        → checked_parameters [] (map written.parameter_of ps) ≡ FaultAt Twice p.name.at
    parameter_again again = one ∙ stands_again (first_names i ps) most_parameters Parameters (written.name_of p.name) _ (among ∙ again)

    -- it is one too many
    pub parameter_too_many : list_any (λ q. bytes_eq q.name.name p.name.name) (take i ps) ≡ false → 8 ≤ i
        → checked_parameters [] (map written.parameter_of ps) ≡ FaultAt (Limit Parameters) p.name.at
    parameter_too_many new many =
        one ∙ one_too_many (first_names i ps) most_parameters Parameters (written.name_of p.name) _ (among ∙ new)
        (ap (λ n. nat_lt n 8) count ∙ le-ltb i 8 many)

    -- it may stand there
    pub parameter_stands : list_any (λ q. bytes_eq q.name.name p.name.name) (take i ps) ≡ false → i < 8
        → checked_parameters [] (map written.parameter_of ps) ≡ checked_parameters (first_names (i + 1) ps) (map written.parameter_of (drop (i + 1) ps))
    parameter_stands new few =
        one ∙ may_stand (first_names i ps) most_parameters Parameters (written.name_of p.name) _ (among ∙ new)
        (ap (λ n. nat_lt n 8) count ∙ lt-ltb i 8 few)
        ∙ ap (λ names. checked_parameters names (map written.parameter_of (drop (i + 1) ps))) (sym more)
