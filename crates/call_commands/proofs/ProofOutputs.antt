-- The output of a proof: its file, and the lines of the outcome and of the proof.
use Rattle.std.proofs.Common.{◌≡◌, ℕ, List, [], ◌∷◌, ◌++◌, length, Vec, Some, refl, sym, ap, ◌∙◌, append-nil, cond, ◌+◌, arith}
use Rattle.std.specs.List.{concat}
use Rattle.std.specs.Prelude.{count_by}
use Rattle.std.specs.declared.alloc.Global.{Global}
use Rattle.std.proofs.Math.Numerals.{one-add}
use Rattle.std.proofs.lemmas.List.Sums.{sum_by-cons}
use Rattle.ideal_meaning.specs.Frames.{Frame, New, Use}
use Rattle.printed_lines.specs.Lines.{proof_line}
use Rattle.ideal_meaning.specs.RunFrames.{again_in, fresh_in}
use Rattle.prover_mode.specs.declared.proving.Proved.{Proved}
use Rattle.command_parts.specs.Answer.{proof_answer}
use Rattle.command_parts.specs.AnswerForms.{Answer}
use Rattle.command_parts.specs.IdealCalls.{IdealCall, call_frames, call_proof, call_proof_line, is_new, is_used, projected_outcome}
use Rattle.command_parts.specs.Reporting.{IsToldOf, ReportsProof}
use Rattle.command_parts.specs.Storing.{IsOutput}
use Rattle.command_parts.specs.declared.report.Report.{Report}

zero_plus : (n : ℕ) → 0 + n ≡ n
zero_plus n = omega arith

-- the frames of each kind, counted
new_count : (fs : List Frame) → count_by is_new fs ≡ fresh_in fs
new_count [] = refl
new_count (New p ∷ fs) = sum_by-cons (λ frame. cond (is_new frame) 1 0) (New p) fs ∙ ap (λ (n : ℕ). 1 + n) (new_count fs) ∙ one-add (fresh_in fs)
new_count (Use k ∷ fs) = sum_by-cons (λ frame. cond (is_new frame) 1 0) (Use k) fs ∙ zero_plus (count_by is_new fs) ∙ new_count fs

used_count : (fs : List Frame) → count_by is_used fs ≡ again_in fs
used_count [] = refl
used_count (New p ∷ fs) = sum_by-cons (λ frame. cond (is_used frame) 1 0) (New p) fs ∙ zero_plus (count_by is_used fs) ∙ used_count fs
used_count (Use k ∷ fs) = sum_by-cons (λ frame. cond (is_used frame) 1 0) (Use k) fs ∙ ap (λ (n : ℕ). 1 + n) (used_count fs) ∙ one-add (again_in fs)

-- the file of a proof, and the lines that tell the outcome and the proof, are those of the answer
pub proof_output : (call : IdealCall) (proved : Proved) (report : Report) (file : Vec ℕ Global) (n bytes : ℕ) → IsToldOf call.role (projected_outcome call) proved.outcome
    → proved.fresh ≡ fresh_in (call_frames call n) → proved.again ≡ again_in (call_frames call n) → file.items ≡ call_proof call n → bytes ≡ length file.items
    → ReportsProof call.role proved bytes report → (name : List ℕ) → IsOutput (proof_answer call n name) name (record { report = report; file = Some file })
proof_output call proved report file n bytes told fresh again is_file is_bytes reports name =
    let reported = reports (projected_outcome call) told in
    let frames = call_frames call n in
    let line : call_proof_line call n ≡ proof_line proved.fresh proved.again bytes =
    ap (λ (m : ℕ). proof_line m (count_by is_used frames) (length (call_proof call n))) (new_count frames ∙ sym fresh)
    ∙ ap (λ (m : ℕ). proof_line proved.fresh m (length (call_proof call n))) (used_count frames ∙ sym again)
    ∙ ap (λ (m : ℕ). proof_line proved.fresh proved.again m) (sym (is_bytes ∙ ap length is_file)) in
    record {
      status = ap (λ (a : Answer). a.status) reported.1;
      lines = ap (λ (a : Answer). concat (a.lines ++ call_proof_line call n ∷ [])) reported.1 ∙ ap (λ (text : List ℕ). reported.0 ++ text) (append-nil (call_proof_line call n) ∙ line) ∙ sym reported.2;
      stored = ap (λ (bytes : List ℕ). (name, bytes) ∷ []) (sym is_file);
    }
