-- Lists of messages: which are empty, and what joins them.
use Rattle.std.proofs.Common.{◌≡◌, ℕ, List, [], ◌∷◌, ◌++◌, length, refl, arith, ap, ◌∙◌, sym}
use Rattle.std.specs.Prelude.{◌==◌, map, filter}
use Rattle.std.proofs.lemmas.List.{map-append}
use Rattle.std.proofs.lemmas.List.Elements.{filter-append}
use Rattle.std.proofs.lemmas.Bool.{ne_eqb}
use Rattle.event_journal.specs.State.{is_empty, messages_to}

-- a list is empty as its length tells
pub is_empty-length : {A : Type 0} (xs : List A) → is_empty xs ≡ (length xs == 0)
is_empty-length [] = refl
is_empty-length (x ∷ xs) = sym (ne_eqb (length (x ∷ xs)) 0 (λ same. absurd (omega arith)))

-- the messages for a node among two lists, one after the other
pub messages_to-append : {M : Type 0} (k : ℕ) (a b : List (ℕ × M)) → messages_to k (a ++ b) ≡ messages_to k a ++ messages_to k b
messages_to-append k a b =
    ap (map (λ message. message.1)) (filter-append (λ message. message.0 == k) a b) ∙ map-append (λ message. message.1) (filter (λ message. message.0 == k) a) (filter (λ message. message.0 == k) b)
