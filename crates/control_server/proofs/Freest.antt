-- The host with the most free tiles is one of the hosts.
use Rattle.std.proofs.Common.{◌≡◌, ℕ, ◌<◌, List, length, nat_eq, Option, Some, None, refl}
use Rattle.std.specs.Prelude.{position, unwrap_or}
use Rattle.std.proofs.lemmas.List.Quantifiers.{position-Some}
use Rattle.control_server.specs.Serve.{most_free, freest_host}

in_range_by : (free : List ℕ) (o : Option ℕ) → position (λ n. nat_eq n (most_free free)) free ≡ o → 0 < length free → unwrap_or o 0 < length free
in_range_by free None e some = some
in_range_by free (Some k) e some = (position-Some (λ n. nat_eq n (most_free free)) free k 0 e).0

pub freest_in_range : (free : List ℕ) → 0 < length free → freest_host free < length free
freest_in_range free some = in_range_by free (position (λ n. nat_eq n (most_free free)) free) refl some
