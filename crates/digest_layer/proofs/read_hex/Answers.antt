use Rattle.std.proofs.Common.{sym, ap, ◌∙◌}
use Rattle.std.specs.Result.{is_ok}
use Rattle.hex.proofs.HexLemmas.{IsOk-decode_sized}
use Rattle.digest_layer.proofs.read_hex.Goals as goal

pub returns-clause-digits : goal.returns-clause-digits
returns-clause-digits c =
    let decoded = IsOk-decode_sized c.args.text.now 32 in
    let same = c.map.ensures.variant ∙ c.ok.ensures.variant ∙ ap is_ok c.from_hex.ensures in
    (λ some. decoded.0 (sym same ∙ some), λ digits. same ∙ decoded.1 digits)
