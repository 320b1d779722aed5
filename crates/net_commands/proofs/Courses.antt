-- How links are served, by a server of a state or by a mirror: lines behind one another, and the counts of a course.
use Rattle.std.proofs.Common.{◌≡◌, ◌⊎◌, ℕ, zero, suc, ◌≤◌, ◌<◌, ◌-◌, Bool, true, false, List, [], ◌∷◌, ◌++◌, length, take, Option, inl, inr, refl, ap, sym, ◌∙◌, subst, arith}
use Rattle.std.specs.List.{concat}
use Rattle.std.specs.Io.KnownBytes.{append_known}
use Rattle.lam_outside.specs.Causes.{Rose}
use Rattle.lam_outside.specs.Links.{Linked}
use Rattle.command_parts.specs.Ending.{WritesPart}
use Rattle.command_parts.specs.Outsides.{Outside}
use Rattle.command_parts.specs.Telling.{TellsText}
use Rattle.command_parts.specs.declared.status.Status.{Status}
use Rattle.net_commands.specs.Courses.{AreLinesTold, AreMade, Course, HasFaults, IsListening, NotListening, NotWritten, Served, WithoutMemory, WritesFront, course_status, greeting_of}
use Rattle.net_commands.specs.NetFaults.{NetFaults, NetRose}
use Rattle.net_commands.specs.NetCounts.{CountsBy}
use Rattle.lam_outside.proofs.Moved.{append_twice}

-- ---- texts behind one another

-- a front of a text is one of the text with more behind it
front_more : (least n : ℕ) (a b : List ℕ) → least ≤ n → least ≤ length a → (m : ℕ) × (least ≤ m) × (take n a ≡ take m (a ++ b))
front_more least zero a b some within = (0, some, refl)
front_more least (suc n) [] b some within = (0, within, refl)
front_more least (suc n) (x ∷ a) b some within =
    let rest = front_more (least - 1) n a b (omega (arith, some)) (omega (arith, within)) in
    (suc rest.0, omega (arith, rest.1), ap (λ xs. x ∷ xs) rest.2)

-- and a text with a front of another behind it is one of both
more_front : (a b : List ℕ) (n : ℕ) → (m : ℕ) × (length a ≤ m) × (a ++ take n b ≡ take m (a ++ b))
more_front [] b n = (n, omega arith, refl)
more_front (x ∷ a) b n = let rest = more_front a b n in (suc rest.0, omega (arith, rest.1), ap (λ xs. x ∷ xs) rest.2)

pub part_of_more : (least : ℕ) (old new : Option (List ℕ)) (a b : List ℕ) → least ≤ length a → WritesFront least old new a → WritesFront least old new (a ++ b)
part_of_more least old new a b within (n, some, is) = let more = front_more least n a b some within in (more.0, more.1, is ∙ ap (append_known old) more.2)

pub whole_behind : (old mid new : Option (List ℕ)) (a b : List ℕ) → mid ≡ append_known old a → new ≡ append_known mid b → new ≡ append_known old (a ++ b)
whole_behind old mid new a b first then = then ∙ ap (λ w. append_known w b) first ∙ append_twice old a b

pub part_behind : (least : ℕ) (old mid new : Option (List ℕ)) (a b : List ℕ) → least ≤ length a → mid ≡ append_known old a → WritesPart mid new b → WritesFront least old new (a ++ b)
part_behind least old mid new a b within first (n, then) =
    let more = more_front a b n in
    (more.0, omega (arith, within, more.1), whole_behind old mid new a (take n b) first then ∙ ap (append_known old) more.2)

-- ---- the lines of a course

-- a first text was written, and then the rest was told
pub course_told : (port : ℕ) (course : Course) (lines : List (List ℕ)) (first text : List ℕ) → concat lines ≡ first ++ text → IsListening course
    → length (greeting_of port course) ≤ length first → (told : Status) (old mid new : Option (List ℕ)) (before between now : ℕ) → mid ≡ append_known old first → between ≡ before
    → TellsText (course_status course) text told mid new between now → AreLinesTold port course lines told old new before now
course_told port course lines first text is listening within told old mid new before between now written same (inl whole) =
    inl (listening, whole.0, whole_behind old mid new first text written whole.1 ∙ ap (append_known old) (sym is), whole.2 ∙ same)
course_told port course lines first text is listening within told old mid new before between now written same (inr part) =
    let least = length (greeting_of port course) in
    inr (part.0, subst (WritesFront least old new) (sym is) (part_behind least old mid new first text within written part.1), subst (λ n. Rose n now) same part.2)

-- ---- the links

-- as many links were made as there were to be, or fewer
pub are_made : (connections links count : ℕ) (more : List Linked) (faulted fault : Bool) (accepts accepts' : ℕ) → length more ≡ count → connections ≡ links
    → ((count ≡ connections) × (fault ≡ faulted)) ⊎ ((count < connections) × (fault ≡ true) × Rose accepts accepts') → AreMade links more faulted fault accepts accepts'
are_made connections links count more faulted fault accepts accepts' number most (inl (all, same)) = inl (number ∙ all ∙ most, same)
are_made connections links count more faulted fault accepts accepts' number most (inr (few, is, rose)) = inr (omega (arith, few, number, most), is, rose)

-- ---- the counts

pub no_dials : (course : Course) (faults faults' : NetFaults) → HasFaults course faults faults' → faults'.dials ≡ faults.dials
no_dials NotListening faults faults' has = has.3
no_dials NotWritten faults faults' has = ap (λ (f : NetFaults). f.dials) has
no_dials (Served true) faults faults' has = has.2
no_dials (Served false) faults faults' has = ap (λ (f : NetFaults). f.dials) has
no_dials WithoutMemory faults faults' has = has.1

pub net_rises : (faults faults' : NetFaults) → Rose faults.links faults'.links ⊎ Rose faults.accepts faults'.accepts → NetRose faults faults'
net_rises faults faults' (inl rose) = inl rose
net_rises faults faults' (inr rose) = inr (inr (inl rose))

-- where all lines of a course were written
pub course_by : (course : Course) (old new : Outside) (faults faults' : NetFaults) → HasFaults course faults faults' → new.read_faults ≡ old.read_faults → new.store_faults ≡ old.store_faults
    → new.write_faults ≡ old.write_faults → (course ≡ NotWritten → ⊥) → CountsBy old new faults faults' (course_status course)
course_by NotListening old new faults faults' has reads stores writes listening = (inr (inr (inl has.0)), stores, writes)
course_by NotWritten old new faults faults' has reads stores writes listening = absurd (listening refl)
course_by (Served true) old new faults faults' has reads stores writes listening = (inr (net_rises faults faults' has.0), stores, writes)
course_by (Served false) old new faults faults' has reads stores writes listening = (reads, has, stores, writes)
course_by WithoutMemory old new faults faults' has reads stores writes listening = (stores, writes)
