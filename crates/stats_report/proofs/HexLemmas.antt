-- What a hole `{:016x}` writes.
use Rattle.std.proofs.Common.{◌≡◌, ℕ, ◌-◌, ◌^◌, [], false}
use Rattle.std.specs.Fmt.{digits, padded_integral, format_spec, char_count}
use Rattle.std.proofs.Math.Nat.{sub-zero}
use Rattle.std.proofs.lemmas.List.{append-nil}
use Rattle.stats_report.specs.Text.{hex_digits}

pub hex_padded : (n : ℕ) → padded_integral (format_spec 32 0 4 16 (2 ^ 64 - 1)) false [] (digits 16 false n) ≡ hex_digits n
unfolding padded_integral char_count hex_digits
hex_padded n = simp (append-nil, sub-zero)
