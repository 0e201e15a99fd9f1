-- The bytes of events, and the events of bytes.
use Rattle.std.proofs.Common.{◌≡◌, ℕ, ◌*◌, ◌<◌, List, [], ◌∷◌, ◌++◌, length, refl, sym, ap, ◌∙◌, arith, cond, inl, inr, zero, suc}
use Rattle.std.specs.Prelude.{◌==◌, All}
use Rattle.std.specs.List.{flat_map}
use Rattle.std.proofs.lemmas.Bool.{cases_Bool, eqb-true, eqb-false, ne_eqb}
use Rattle.std.proofs.lemmas.List.Elements.{All-nil, All-head, All-tail, All-cons}
use Rattle.event_journal.specs.declared.events.Event.{Event}
use Rattle.event_journal.specs.declared.events.Event.TheVariants.{Step, Deliver}
use Rattle.journal_file.specs.File.{event_bytes, HasSenderBelow255}
use Rattle.journal_file.specs.Reading.{event_of, events_in}

-- two bytes an event
pub length-events : (events : List Event) → length (flat_map event_bytes events) ≡ 2 * length events
length-events [] = refl
length-events (Step node ∷ events) = omega (arith, length-events events)
length-events (Deliver from node ∷ events) = omega (arith, length-events events)

-- a sender below 255 reads as a sender
event_of-sender : (node from : ℕ) → from < 255 → event_of node from ≡ Deliver from node
event_of-sender node from below =
    ap (λ is_step. cond is_step (Step node) (Deliver from node)) (ne_eqb from 255 (λ same. absurd (omega arith)))

-- the bytes of events are read as those events
pub events_in-bytes : (events : List Event) → All HasSenderBelow255 events → events_in (flat_map event_bytes events) ≡ events
events_in-bytes [] below = refl
events_in-bytes (Step node ∷ events) below =
    ap (λ rest. Step node ∷ rest) (events_in-bytes events (All-tail HasSenderBelow255 (Step node) events below))
events_in-bytes (Deliver from node ∷ events) below =
    let first = event_of-sender node from (All-head HasSenderBelow255 (Deliver from node) events below) in
    let rest = events_in-bytes events (All-tail HasSenderBelow255 (Deliver from node) events below) in
    cc

-- the bytes of what two bytes are read as
event_bytes-of : (node other : ℕ) → event_bytes (event_of node other) ≡ node ∷ (other ∷ [])
event_bytes-of node other = elim (cases_Bool (other == 255)) [
  | inl step ↦ (let same = eqb-true other 255 step in
      ap (λ is_step. event_bytes (cond is_step (Step node) (Deliver other node))) step ∙ ap (λ byte. node ∷ (byte ∷ [])) (sym same))
  | inr sender ↦ ap (λ is_step. event_bytes (cond is_step (Step node) (Deliver other node))) sender
]

-- the events of so many pairs of bytes have those bytes, and are so many
pub events-of_bytes : (count : ℕ) (body : List ℕ) → length body ≡ 2 * count → (flat_map event_bytes (events_in body) ≡ body) × (length (events_in body) ≡ count)
events-of_bytes count [] even = (refl, omega arith)
events-of_bytes count (node ∷ []) even = absurd (omega arith)
events-of_bytes zero (node ∷ (other ∷ rest)) even = absurd (omega arith)
events-of_bytes (suc count) (node ∷ (other ∷ rest)) even =
    let later = events-of_bytes count rest (omega arith) in
    (ap (λ bytes. bytes ++ flat_map event_bytes (events_in rest)) (event_bytes-of node other) ∙ ap (λ bytes. node ∷ (other ∷ bytes)) later.0, omega (arith, later.1))

-- a byte that isn't 255 is a sender below it
event_of-below : (node other : ℕ) → other < 256 → HasSenderBelow255 (event_of node other)
event_of-below node other byte = elim (cases_Bool (other == 255)) [
  | inl step ↦ rw step tt
  | inr sender ↦ (let apart = eqb-false other 255 sender in rw sender (omega (arith, apart)))
]

pub events-below : (body : List ℕ) → All (λ byte. byte < 256) body → All HasSenderBelow255 (events_in body)
events-below [] bytes = All-nil HasSenderBelow255
events-below (node ∷ []) bytes = All-nil HasSenderBelow255
events-below (node ∷ (other ∷ rest)) bytes =
    let on = All-tail (λ byte. byte < 256) node (other ∷ rest) bytes in
    All-cons HasSenderBelow255 (event_of node other) (events_in rest)
    (event_of-below node other (All-head (λ byte. byte < 256) other rest on))
    (events-below rest (All-tail (λ byte. byte < 256) other rest on))
