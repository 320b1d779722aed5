-- The text of `serve`: the lines of its course, and what follows of the storing.
use Rattle.std.proofs.Common.{◌≡◌, ◌⊎◌, ℕ, zero, suc, ◌≤◌, List, [], ◌∷◌, ◌++◌, length, length-append, take, codes, Option, inl, inr, refl, ap, sym, ◌∙◌, subst, arith}
use Rattle.std.specs.List.{concat}
use Rattle.std.specs.Io.KnownBytes.{append_known}
use Rattle.std.proofs.lemmas.List.Folds.{concat-append}
use Rattle.lam_outside.specs.Causes.{Rose}
use Rattle.printed_lines.specs.Lines.{listening_line}
use Rattle.session_meaning.specs.Server.{Server}
use Rattle.command_parts.specs.Answer.{Serving}
use Rattle.command_parts.specs.Outsides.{Outside}
use Rattle.net_commands.specs.ServeSteps.{IsCourseTold, IsStorageTold}
use Rattle.net_commands.specs.Courses.{Course, IsListening, NotListening, NotWritten, Served, WithoutMemory, WritesFront, course_status, greeting_of}
use Rattle.net_commands.specs.Serving.{IsStored, IsTooLong, LacksMemory, Storage, StoreFails, TellsPart, TellsWhole, course_lines, server_lines, serving_text, storage_lines, storage_status}
use Rattle.command_parts.specs.declared.status.Status.{Status}
use Rattle.command_parts.specs.declared.status.Status.TheVariants.{WriteFault}
use Rattle.net_commands.proofs.Courses.{part_behind, part_of_more, whole_behind}
use Rattle.lam_outside.proofs.Moved.{append_none}

no_front : (n : ℕ) → take {A = ℕ} n [] ≡ []
no_front zero = refl
no_front (suc n) = refl

no_lines : (storage : Storage) → storage_lines storage WriteFault ≡ []
no_lines IsStored = refl
no_lines StoreFails = refl
no_lines IsTooLong = refl
no_lines LacksMemory = refl

stays_fault : (storage : Storage) → storage_status storage WriteFault ≡ WriteFault
stays_fault IsStored = refl
stays_fault StoreFails = refl
stays_fault IsTooLong = refl
stays_fault LacksMemory = refl

rises_twice : (before between now : ℕ) → Rose before between → Rose between now → Rose before now
rises_twice before between now rose again = omega (arith, rose, again)

module _ (s : Serving) (course : Course) (server : Server) (storage : Storage) (old new : Outside) (told ended : Status) (mid : Option (List ℕ)) (between : ℕ) where
  abbrev Told : Type 0
  Told = TellsWhole s course server storage old new ended ⊎ TellsPart s course server storage old new ended

  -- the whole text
  text_is : concat (course_lines s course server) ++ concat (storage_lines storage (course_status course)) ≡ serving_text s course server storage
  text_is = sym (concat-append (course_lines s course server) (storage_lines storage (course_status course)))

  -- the line that stands before the links is one of those of the course
  greeting_within : (course : Course) → length (greeting_of s.port course) ≤ length (concat (course_lines s course server))
  greeting_within (Served faulted) = omega (arith, length-append (listening_line s.port) (concat (server_lines server faulted)))
  greeting_within WithoutMemory = omega (arith, length-append (listening_line s.port) (concat (codes "no memory\n" ∷ [])))
  greeting_within NotListening = omega arith
  greeting_within NotWritten = omega arith

  abbrev Writes : List ℕ → Type 0
  Writes text = WritesFront (length (greeting_of s.port course)) old.written new.written text

  -- where all lines of the course were written
  behind_whole : IsListening course → mid ≡ append_known old.written (concat (course_lines s course server)) → between ≡ old.write_faults
      → IsStorageTold storage (course_status course) ended mid new.written between new.write_faults → Told
  behind_whole listening written same (inl whole) = inl (record {
    listening = listening;
    status = whole.0;
    written = whole_behind old.written mid new.written _ _ written whole.1 ∙ ap (append_known old.written) text_is;
    writes = whole.2 ∙ same;
  })
  behind_whole listening written same (inr part) = inr (record {
    status = part.0;
    part = subst Writes text_is (part_behind (length (greeting_of s.port course)) old.written mid new.written _ _ (greeting_within course) written part.1);
    rose = subst (λ n. Rose n new.write_faults) same part.2;
  })

  -- where the sink failed at them
  part_grows : WritesFront (length (greeting_of s.port course)) old.written mid (concat (course_lines s course server)) → new.written ≡ mid → Writes (serving_text s course server storage)
  part_grows part same =
      let least = length (greeting_of s.port course) in
      subst Writes text_is
      (part_of_more least old.written new.written _ _ (greeting_within course) (subst (λ w. WritesFront least old.written w (concat (course_lines s course server))) (sym same) part))

  nothing : (n : ℕ) → new.written ≡ append_known mid (take n (concat (storage_lines storage WriteFault))) → new.written ≡ mid
  nothing n is = is ∙ ap (λ (lines : List (List ℕ)). append_known mid (take n (concat lines))) (no_lines storage) ∙ (ap (append_known mid) (no_front n) ∙ append_none mid)

  all_nothing : new.written ≡ append_known mid (concat (storage_lines storage WriteFault)) → new.written ≡ mid
  all_nothing is = is ∙ ap (λ (lines : List (List ℕ)). append_known mid (concat lines)) (no_lines storage) ∙ append_none mid

  behind_part : WritesFront (length (greeting_of s.port course)) old.written mid (concat (course_lines s course server)) → Rose old.write_faults between
      → IsStorageTold storage WriteFault ended mid new.written between new.write_faults → Told
  behind_part part rose (inl whole) = inr (record {
    status = whole.0 ∙ stays_fault storage;
    part = part_grows part (all_nothing whole.1);
    rose = subst (Rose old.write_faults) (sym whole.2) rose;
  })
  behind_part part rose (inr more) = inr (record {
    status = more.0;
    part = part_grows part (nothing more.1.0 more.1.1);
    rose = rises_twice old.write_faults between new.write_faults rose more.2;
  })

  pub serving_told : IsCourseTold s course server told old.written mid old.write_faults between → IsStorageTold storage told ended mid new.written between new.write_faults → Told
  serving_told (inl (listening, is, written, same)) storing =
      behind_whole listening written same (subst (λ told. IsStorageTold storage told ended mid new.written between new.write_faults) is storing)
  serving_told (inr (is, part, rose)) storing = behind_part part rose (subst (λ told. IsStorageTold storage told ended mid new.written between new.write_faults) is storing)
