-- One turn of a loop that reads a list, and its end, as the loops of the parser meet them: what was pushed is seen by a view.
use Rattle.std.proofs.Common.{◌≡◌, ◌∙◌, ◌<◌, Bool, true, false, List, [], ◌∷◌, ◌++◌, map, Result, Err, ap, sym, subst}
use Rattle.std.specs.Prelude.{IsErrAnd}
use Rattle.std.proofs.lemmas.Result.{err_from_is_err_and}
use Rattle.lexemes.specs.Tokens.{Tokens, count}
use Rattle.lexemes.specs.Readings.{Reading, Found, SyntaxFault}
use Rattle.lexemes.specs.Remaining.{Reads}
use Rattle.auth_syntax.proofs.Loops.{IsReadByOne, IsReadSoFar, one_is_shorter, pushed, read_so_far-end, read_so_far-more, read_so_far-none, read_so_far-other}

module _ {A B C : Type 0} {reads : Tokens → Reading Bool} {one : Tokens → Reading A} {see : List A → B} {all : Tokens → Reading B}
    (by_one : IsReadByOne reads one see all) (view : C → A) (whole : Tokens) (before : List C) (rest : Tokens)
    (h : IsReadSoFar reads one whole (map view before) rest) where
  -- nothing is read of a list that halts with this fault
  halted : {D : Type 0} (view_all : D → B) (r : Result D SyntaxFault) (fault : SyntaxFault) (left : Tokens) → IsErrAnd r (λ e. e ≡ fault)
      → Reads view_all (all whole) (Err fault) left → Reads view_all (all whole) r left
  halted {D} view_all r fault left is refused =
      let p = err_from_is_err_and r is in
      subst (λ (r : Result D SyntaxFault). Reads view_all (all whole) r left) (sym (p.1 ∙ ap Err p.2)) refused

  -- the next thing is refused
  pub no_thing : {D : Type 0} (view_all : D → B) (r : Result D SyntaxFault) (fault : SyntaxFault) (left : Tokens) → IsErrAnd r (λ e. e ≡ fault)
      → Reads view (one rest) (Err fault) left → Reads view_all (all whole) r left
  no_thing view_all r fault left is refused =
      halted view_all r fault left is (read_so_far-none reads one see all by_one whole (map view before) rest h view view_all left left fault refused)

  module _ (after behind : Tokens) (thing : C) (found : one rest ≡ Found (view thing) after) where
    -- what stands behind it is refused
    pub no_sign : {D : Type 0} (view_all : D → B) (r : Result D SyntaxFault) (fault : SyntaxFault) → IsErrAnd r (λ e. e ≡ fault)
        → Reads (λ follows. follows) (reads after) (Err fault) behind → Reads view_all (all whole) r behind
    no_sign view_all r fault is refused =
        halted view_all r fault behind is (read_so_far-other reads one see all by_one whole (map view before) rest h view_all after (view thing) found behind behind fault refused)

    module _ (follows : Bool) (sign : reads after ≡ Found follows behind) where
      pub fewer_left : count behind < count rest
      fewer_left = one_is_shorter reads one see all by_one whole (map view before) rest h after behind (view thing) follows found sign

      module _ (items : List C) (kept : items ≡ before ++ thing ∷ []) where
        -- it is the last one
        pub list_ends : follows ≡ false → all whole ≡ Found (see (map view items)) behind
        list_ends last =
            read_so_far-end reads one see all by_one whole (map view before) rest h after behind (view thing) found (sign ∙ ap (λ b. Found b behind) last)
            ∙ ap (λ (things : List A). Found (see things) behind) (sym (pushed view before items thing kept))

        -- another one follows
        pub list_goes_on : follows ≡ true → IsReadSoFar reads one whole (map view items) behind
        list_goes_on more =
            subst (λ (things : List A). IsReadSoFar reads one whole things behind) (sym (pushed view before items thing kept))
            (read_so_far-more reads one see all by_one whole (map view before) rest h after behind (view thing) found (sign ∙ ap (λ b. Found b behind) more))
