use Rattle.std.proofs.Common.{◌≡◌, ◌<◌, ◌≤◌, ◌∷◌, ◌++◌, [], length, ℕ, ◌+◌, Option, Some, None, Result, Err, IfOk, IsSome, is_some, true, reverse, refl, sym, ap, ◌∙◌, subst, arith, leb-true}
use Rattle.core_terms.specs.Types.{Table, Ty, has_numbers}
use Rattle.core_terms.specs.Values.{Value}
use Rattle.images.specs.Images.{entry}
use Rattle.images.specs.SavedImages.{distinct, walk}
use Rattle.value_store.specs.Stores.{nodes_in}
use Rattle.value_store.specs.Views.{form_shown}
use Rattle.images.specs.Frames.{frame_of}
use Rattle.images.specs.KeptNodes.{AreKeptFor}
use Rattle.images.specs.SavedRecords.{AreSaved, HaveRecords, bytes_in, node_numbers, number_at}
use Rattle.images.specs.declared.fault.SaveFault.{SaveFault}
use Rattle.images.specs.declared.save.records.Records.{Records}
use Rattle.images.proofs.LoopFacts.{emptied, same_error, none_shown, part_below, part_shown, popped, refs_shown, turned}
use Rattle.images.specs.Reached.{AllReached, Itself}
use Rattle.images.proofs.ReachedNodes.{FramesReached, reached_add, reached_part}
use Rattle.images.proofs.Saving.{Saving}
use Rattle.images.proofs.SavingSteps.{has_more, saving_add, saving_refused}
use Rattle.images.proofs.SavingWalk.{saving_first, saving_kept, saving_last, saving_next, saving_part}
use Rattle.images.proofs.WaitingFrames.{AreWaiting, HasRecord, waiting_first, waiting_next, waiting_part, waiting_rest, waiting_whole}
use Rattle.images.proofs.Weights.{less_done, less_next, less_part}
use Rattle.images.proofs.save.records_of.Goals as goal

pub loop-frame-init : goal.loop-frame-init
loop-frame-init c =
    let nodes = nodes_in c.args.store.now in
    let records = c.new-records.result in
    let root = c.args.root in
    let items : c.add.new.frames.items ≡ frame_of root 0 ∷ [] = c.in_ok-add.ensures ∙ ap (λ xs. xs ++ frame_of root 0 ∷ []) c.new-frames.ensures.items in
    let back : frame_of root 0 ∷ [] ≡ reverse c.add.new.frames.items = sym (ap reverse items) in
    record {
      most = c.new-records.ensures.most;
      keeps = λ asked. c.new-records.ensures.keeps ∙ asked;
      reached = (subst (FramesReached nodes root.0) back (Itself, tt), λ keeps. subst (AllReached nodes root.0) (sym c.new-records.ensures.nodes) tt);
      waiting = subst (AreWaiting nodes (HasRecord records)) back (waiting_first nodes (HasRecord records) root c.requires);
      saving = λ (types : Table) (t : Ty) (v : Value) numbers h.
          subst (Saving types nodes (distinct [] (walk types t v)) records) back
          (saving_first types nodes records root (entry t v) h c.new-records.ensures.records c.new-records.ensures.nodes c.new-records.ensures.numbers);
    }

pub loop-frame-smaller-in-Continue-branch-3 : goal.loop-frame-smaller-in-Continue-branch-3
loop-frame-smaller-in-Continue-branch-3 c =
    let nodes = nodes_in c.args.store.now in
    let f = c.in-Some.frame in
    let form = form_shown c.view-view.result in
    let was = popped c.loop-frame.frames.items c.pop.new.self.items c.pop.result f c.pop.ensures.items c.in-Some.is in
    let at = part_shown nodes f.node.0 f.next form c.part.result c.in-Some-part.part c.view-view.ensures.form c.part.ensures.part c.in-Some-part.is in
    let below = part_below f.node.0 f.next form c.part.result c.in-Some-part.part c.view-view.ensures.refers c.part.ensures.part c.in-Some-part.is in
    less_part nodes c.loop-frame.frames.items c.pop.new.self.items c.add-in-Some-part.new.frames.items c.add-then-is_none.new.frames.items f c.in-Some-part.part at below was
    c.in_ok-add-in-Some-part.ensures c.in_ok-add-in-Some-part-2.ensures

pub loop-frame-preserved-in-Continue-branch-3 : goal.loop-frame-preserved-in-Continue-branch-3
loop-frame-preserved-in-Continue-branch-3 c =
    let nodes = nodes_in c.args.store.now in
    let records = c.loop-frame.records in
    let f = c.in-Some.frame in
    let p = c.in-Some-part.part in
    let rest = c.pop.new.self.items in
    let form = form_shown c.view-view.result in
    let was = turned c.loop-frame.frames.items rest f (popped c.loop-frame.frames.items rest c.pop.result f c.pop.ensures.items c.in-Some.is) in
    let at = part_shown nodes f.node.0 f.next form c.part.result p c.view-view.ensures.form c.part.ensures.part c.in-Some-part.is in
    let below : p.0 < f.node.0 = part_below f.node.0 f.next form c.part.result p c.view-view.ensures.refers c.part.ensures.part c.in-Some-part.is in
    let waited : AreWaiting nodes (HasRecord records) (f ∷ reverse rest) = subst (AreWaiting nodes (HasRecord records)) was c.loop-frame.invariant.waiting in
    let inside : p.0 < length nodes = omega (arith, below, waited.0) in
    let middle = turned c.add-in-Some-part.new.frames.items rest (frame_of f.node (f.next + 1)) c.in_ok-add-in-Some-part.ensures in
    let back : frame_of p 0 ∷ frame_of f.node (f.next + 1) ∷ reverse rest ≡ reverse c.add-then-is_none.new.frames.items =
    sym (turned c.add-then-is_none.new.frames.items c.add-in-Some-part.new.frames.items (frame_of p 0) c.in_ok-add-in-Some-part-2.ensures ∙ ap (λ xs. frame_of p 0 ∷ xs) middle) in
    record {
      most = c.loop-frame.invariant.most;
      keeps = c.loop-frame.invariant.keeps;
      reached = (subst (FramesReached nodes c.args.root.0) back (reached_part nodes c.args.root.0 f (reverse rest) p at (subst (FramesReached nodes c.args.root.0) was c.loop-frame.invariant.reached.0)), c.loop-frame.invariant.reached.1);
      waiting = subst (AreWaiting nodes (HasRecord records)) back (waiting_part nodes (HasRecord records) (reverse rest) f p at inside waited);
      saving = λ (types : Table) (t : Ty) (v : Value) numbers h.
          subst (Saving types nodes (distinct [] (walk types t v)) records) back
          (saving_part types nodes (distinct [] (walk types t v)) records f (reverse rest) p at
          (subst (Saving types nodes (distinct [] (walk types t v)) records) was (c.loop-frame.invariant.saving types t v numbers h)));
    }

pub loop-frame-smaller-else-is_none : goal.loop-frame-smaller-else-is_none
loop-frame-smaller-else-is_none c =
    let nodes = nodes_in c.args.store.now in
    let f = c.in-Some.frame in
    let form = form_shown c.view-view.result in
    let was = popped c.loop-frame.frames.items c.pop.new.self.items c.pop.result f c.pop.ensures.items c.in-Some.is in
    let at = part_shown nodes f.node.0 f.next form c.part.result c.in-Some-part.part c.view-view.ensures.form c.part.ensures.part c.in-Some-part.is in
    less_next nodes c.loop-frame.frames.items c.pop.new.self.items c.add-in-Some-part.new.frames.items f c.in-Some-part.part.0 at was c.in_ok-add-in-Some-part.ensures

few_types : (types : Table) → has_numbers types ≡ true → length types ≤ 65536
few_types types h = let few : length types ≤ 256 = leb-true (length types) 256 h in omega (arith, few)

-- a number that isn't wanting is there
number_there : (o : Option ℕ) → is_some o ≡ true → (n : ℕ) × (o ≡ Some n)
number_there None h = absurd (cc)
number_there (Some n) h = (n, refl)

pub loop-frame-preserved-else-is_none : goal.loop-frame-preserved-else-is_none
loop-frame-preserved-else-is_none c =
    let nodes = nodes_in c.args.store.now in
    let records = c.loop-frame.records in
    let f = c.in-Some.frame in
    let p = c.in-Some-part.part in
    let rest = c.pop.new.self.items in
    let form = form_shown c.view-view.result in
    let was = turned c.loop-frame.frames.items rest f (popped c.loop-frame.frames.items rest c.pop.result f c.pop.ensures.items c.in-Some.is) in
    let at = part_shown nodes f.node.0 f.next form c.part.result p c.view-view.ensures.form c.part.ensures.part c.in-Some-part.is in
    let number = number_there c.number_of.result c.if-is_none.ensures in
    let known : number_at records p.0 ≡ Some number.0 = sym c.number_of.ensures ∙ number.1 in
    let has : IsSome (number_at records p.0) = ap is_some known in
    let back : frame_of f.node (f.next + 1) ∷ reverse rest ≡ reverse c.add-in-Some-part.new.frames.items =
    sym (turned c.add-in-Some-part.new.frames.items rest (frame_of f.node (f.next + 1)) c.in_ok-add-in-Some-part.ensures) in
    record {
      most = c.loop-frame.invariant.most;
      keeps = c.loop-frame.invariant.keeps;
      reached = (subst (FramesReached nodes c.args.root.0) back (subst (FramesReached nodes c.args.root.0) was c.loop-frame.invariant.reached.0), c.loop-frame.invariant.reached.1);
      waiting = subst (AreWaiting nodes (HasRecord records)) back
          (waiting_next nodes (HasRecord records) (reverse rest) f p.0 at has (subst (AreWaiting nodes (HasRecord records)) was c.loop-frame.invariant.waiting));
      saving = λ (types : Table) (t : Ty) (v : Value) numbers h.
          subst (Saving types nodes (distinct [] (walk types t v)) records) back
          (saving_next types nodes (distinct [] (walk types t v)) records f (reverse rest) p.0 number.0 at known
          (subst (Saving types nodes (distinct [] (walk types t v)) records) was (c.loop-frame.invariant.saving types t v numbers h)));
    }

pub add-requires-in-None-clause-parts : goal.add-requires-in-None-clause-parts
add-requires-in-None-clause-parts c =
    let nodes = nodes_in c.args.store.now in
    let records = c.loop-frame.records in
    let f = c.in-Some.frame in
    let rest = c.pop.new.self.items in
    let form = form_shown c.view-view.result in
    let was = turned c.loop-frame.frames.items rest f (popped c.loop-frame.frames.items rest c.pop.result f c.pop.ensures.items c.in-Some.is) in
    let over = none_shown nodes f.node.0 f.next form c.part.result c.view-view.ensures.form c.part.ensures.part c.in-None.is in
    subst (HaveRecords records) (refs_shown nodes f.node.0 form c.view-view.ensures.form)
    (waiting_whole nodes records (reverse rest) f over (subst (AreWaiting nodes (HasRecord records)) was c.loop-frame.invariant.waiting))

pub loop-frame-smaller : goal.loop-frame-smaller
loop-frame-smaller c =
    less_done (nodes_in c.args.store.now) c.loop-frame.frames.items c.pop.new.self.items c.in-Some.frame
    (popped c.loop-frame.frames.items c.pop.new.self.items c.pop.result c.in-Some.frame c.pop.ensures.items c.in-Some.is)

pub loop-frame-preserved : goal.loop-frame-preserved
loop-frame-preserved c =
    let nodes = nodes_in c.args.store.now in
    let records = c.loop-frame.records in
    let new = c.add-in-None.new.self in
    let f = c.in-Some.frame in
    let rest = c.pop.new.self.items in
    let form = form_shown c.view-view.result in
    let was = turned c.loop-frame.frames.items rest f (popped c.loop-frame.frames.items rest c.pop.result f c.pop.ensures.items c.in-Some.is) in
    let over = none_shown nodes f.node.0 f.next form c.part.result c.view-view.ensures.form c.part.ensures.part c.in-None.is in
    let waited = subst (AreWaiting nodes (HasRecord records)) was c.loop-frame.invariant.waiting in
    let have = subst (HaveRecords records) (refs_shown nodes f.node.0 form c.view-view.ensures.form) (waiting_whole nodes records (reverse rest) f over waited) in
    let added = c.in_ok-add-in-None.ensures.added in
    record {
      most = c.in_ok-add-in-None.ensures.most ∙ c.loop-frame.invariant.most;
      keeps = λ asked. c.in_ok-add-in-None.ensures.keeps ∙ c.loop-frame.invariant.keeps asked;
      reached = (let met = subst (FramesReached nodes c.args.root.0) was c.loop-frame.invariant.reached.0 in (met.1, reached_add nodes c.args.root.0 f.node.0 form records new added met.0 c.loop-frame.invariant.reached.1));
      waiting = waiting_rest nodes (HasRecord records) (HasRecord new) (reverse rest) f (has_more form f records new added) waited;
      saving = λ (types : Table) (t : Ty) (v : Value) numbers h.
          saving_add types nodes (few_types types numbers) (distinct [] (walk types t v)) records form f (reverse rest) c.view-view.ensures.form over have
          (subst (Saving types nodes (distinct [] (walk types t v)) records) was (c.loop-frame.invariant.saving types t v numbers h)) new added;
    }

pub returns-in_err-add-in-None : goal.returns-in_err-add-in-None
returns-in_err-add-in-None c =
    let nodes = nodes_in c.args.store.now in
    let records = c.loop-frame.records in
    let f = c.in-Some.frame in
    let rest = c.pop.new.self.items in
    let form = form_shown c.view-view.result in
    let was = turned c.loop-frame.frames.items rest f (popped c.loop-frame.frames.items rest c.pop.result f c.pop.ensures.items c.in-Some.is) in
    let over = none_shown nodes f.node.0 f.next form c.part.result c.view-view.ensures.form c.part.ensures.part c.in-None.is in
    let waited = subst (AreWaiting nodes (HasRecord records)) was c.loop-frame.invariant.waiting in
    let have = subst (HaveRecords records) (refs_shown nodes f.node.0 form c.view-view.ensures.form) (waiting_whole nodes records (reverse rest) f over waited) in
    record {
      reached = λ asked. subst (λ (r : Result Records SaveFault). IfOk r (λ records. AllReached nodes c.args.root.0 (node_numbers records)))
          (sym (same_error c.from_residual-in_err-add-in-None.result c.in_err-add-in-None.field-0.0 c.from_residual-in_err-add-in-None.ensures)) tt;
      saved = λ (types : Table) (t : Ty) (v : Value) numbers h.
          subst (AreSaved c.args.most types (distinct [] (walk types t v)))
          (sym (same_error c.from_residual-in_err-add-in-None.result c.in_err-add-in-None.field-0.0 c.from_residual-in_err-add-in-None.ensures))
          (subst (λ n. AreSaved n types (distinct [] (walk types t v)) (Err c.in_err-add-in-None.field-0.0)) c.loop-frame.invariant.most
          (saving_refused types nodes (few_types types numbers) (distinct [] (walk types t v)) records form f (reverse rest) c.view-view.ensures.form over have
          (subst (Saving types nodes (distinct [] (walk types t v)) records) was (c.loop-frame.invariant.saving types t v numbers h))
          c.in_err-add-in-None.field-0.0 c.in_err-add-in-None.ensures.long));
      kept = λ asked (types : Table) (t : Ty) (v : Value) numbers h.
          subst (λ (r : Result Records SaveFault). IfOk r (λ records. AreKeptFor types nodes (distinct [] (walk types t v)) records))
          (sym (same_error c.from_residual-in_err-add-in-None.result c.in_err-add-in-None.field-0.0 c.from_residual-in_err-add-in-None.ensures)) tt;
    }

pub returns : goal.returns
returns c =
    let nodes = nodes_in c.args.store.now in
    let records = c.loop-frame.records in
    let none : c.loop-frame.frames.items ≡ [] = emptied c.loop-frame.frames.items (omega (arith, c.in_default.ensures.cases.0, c.loop-frame.frames.ok.0)) in
    let short : length (bytes_in records) ≤ c.args.most = omega (arith, records.counted, records.short, c.loop-frame.invariant.most) in
    record {
      reached = λ asked. c.loop-frame.invariant.reached.1 (c.loop-frame.invariant.keeps asked);
      saved = λ (types : Table) (t : Ty) (v : Value) numbers h.
          saving_last types nodes c.args.most (distinct [] (walk types t v)) records short
          (subst (Saving types nodes (distinct [] (walk types t v)) records) (ap reverse none) (c.loop-frame.invariant.saving types t v numbers h));
      kept = λ asked (types : Table) (t : Ty) (v : Value) numbers h.
          saving_kept types nodes (distinct [] (walk types t v)) records (c.loop-frame.invariant.keeps asked)
          (subst (Saving types nodes (distinct [] (walk types t v)) records) (ap reverse none) (c.loop-frame.invariant.saving types t v numbers h));
    }
