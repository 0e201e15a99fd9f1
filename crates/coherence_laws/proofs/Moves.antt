-- From one phase to the next: what the home takes from a node, what it sends to it, and what the node does.
use Rattle.std.proofs.Common.{◌≡◌, true, false, List, [], ◌∷◌, Some, None, refl, ap, inl, inr, append_assoc}
use Rattle.std.specs.Prelude.{Option, ◌⊎◌}
use Rattle.sim_base.specs.declared.lines.LineData.{LineData}
use Rattle.wire_msg.specs.declared.lines.Want.{Want}
use Rattle.wire_msg.specs.declared.lines.Want.TheVariants.{Read, Write}
use Rattle.wire_msg.specs.declared.lines.Up.{Up}
use Rattle.wire_msg.specs.declared.lines.Up.TheVariants.{Asks, GivesUp, Acknowledges, HandsOver}
use Rattle.wire_msg.specs.Message.{Down, gives, drops, fetches}
use Rattle.tile_cache.specs.Copy.{Copy, absent, shared, modified}
use Rattle.coherence_laws.specs.Part.{Part}
use Rattle.coherence_laws.proofs.Phases.{Asking, quiet, on_way, at_home, Standing, stranger, sharer, upgrader, victim, owner, Phase, away, shares, reads, upgrades, loses, reads_loses, dropped, dropped_late, writes, owns, puts, puts_fetched, answers_shared, answers_gone, asking_up, fetch_there, copy_there, standing_of, requests_of, phase_copy, phase_want, phase_up, phase_down, part_in, Comes, into, with_up, sent, asked_for, with_dropped, with_line, with_fetch, without_copy}

-- what the home takes from a node

only_asks : (q : Asking) (u : Up) (us : List Up) → asking_up q ≡ u ∷ us → (w : Want) × (u ≡ Asks w)
only_asks quiet u us e = cc
only_asks (on_way w) u us e = (w, cc)
only_asks (at_home w) u us e = cc

-- a request
pub took_request : (v : LineData) (p : Phase) (w : Want) (us : List Up) → phase_up v p ≡ Asks w ∷ us
    → (requests_of p ≡ []) × Comes v (standing_of p) (w ∷ []) (with_up (part_in v p) us)
took_request v (away st (on_way u)) w us e = (refl, into (away st (at_home w)) refl refl cc)
took_request v (shares st h (on_way u)) w us e = (refl, into (shares st h (at_home w)) refl refl cc)
took_request v (loses st h (on_way u)) w us e = (refl, into (loses st h (at_home w)) refl refl cc)
took_request v (dropped_late st u) w us e = (refl, into (dropped st (at_home w)) refl refl cc)
took_request v _ w us e = cc

-- an acknowledgement
pub took_ack : (v : LineData) (p : Phase) (us : List Up) → phase_up v p ≡ Acknowledges ∷ us
    → (standing_of p ≡ victim) × Comes v stranger (requests_of p) (with_up (part_in v p) us)
took_ack v (dropped st q) us e = (refl, into (away st q) refl refl cc)
took_ack v (away st q) us e = let a = only_asks q Acknowledges us e in cc
took_ack v (shares st h q) us e = let a = only_asks q Acknowledges us e in cc
took_ack v (loses st h q) us e = let a = only_asks q Acknowledges us e in cc
took_ack v _ us e = cc

-- a line that was given up, while the home has its node as the owner, or asks it for the line
pub took_put : (v : LineData) (p : Phase) (d : LineData) (us : List Up) → phase_up v p ≡ GivesUp d ∷ us
    → (d ≡ v) × (requests_of p ≡ []) × ((standing_of p ≡ owner None) ⊎ ((f : Want) × (standing_of p ≡ owner (Some f)))) × Comes v stranger [] (with_up (part_in v p) us)
took_put v (puts None) d us e = (cc, refl, inl refl, into (away None quiet) refl refl cc)
took_put v (puts (Some w)) d us e = (cc, refl, inl refl, into (away None (on_way w)) refl refl cc)
took_put v (puts_fetched f there None) d us e = (cc, refl, inr (f, refl), into (away there quiet) refl refl cc)
took_put v (puts_fetched f there (Some w)) d us e = (cc, refl, inr (f, refl), into (away there (on_way w)) refl refl cc)
took_put v (away st q) d us e = let a = only_asks q (GivesUp d) us e in cc
took_put v (shares st h q) d us e = let a = only_asks q (GivesUp d) us e in cc
took_put v (loses st h q) d us e = let a = only_asks q (GivesUp d) us e in cc
took_put v _ d us e = cc

-- an answer to a fetch: its node stays a sharer where a reader asked
abbrev pub after_answer : Want → Standing
after_answer Read = sharer
after_answer Write = stranger

pub took_answer : (v : LineData) (p : Phase) (d : LineData) (us : List Up) → phase_up v p ≡ HandsOver d ∷ us
    → (d ≡ v) × (requests_of p ≡ []) × ((f : Want) × (standing_of p ≡ owner (Some f)) × Comes v (after_answer f) [] (with_up (part_in v p) us))
took_answer v (answers_shared h None) d us e = (cc, refl, (Read, refl, into (shares None h quiet) refl refl cc))
took_answer v (answers_shared h (Some w)) d us e = (cc, refl, (Read, refl, into (shares None h (on_way w)) refl refl cc))
took_answer v (answers_gone None) d us e = (cc, refl, (Write, refl, into (away None quiet) refl refl cc))
took_answer v (answers_gone (Some w)) d us e = (cc, refl, (Write, refl, into (away None (on_way w)) refl refl cc))
took_answer v (away st q) d us e = let a = only_asks q (HandsOver d) us e in cc
took_answer v (shares st h q) d us e = let a = only_asks q (HandsOver d) us e in cc
took_answer v (loses st h q) d us e = let a = only_asks q (HandsOver d) us e in cc
took_answer v _ d us e = cc

-- what the home sends to a node

-- the line, to one whose request to read is at the home
pub given_to_read : (v : LineData) (p : Phase) (ws : List Want) → (standing_of p ≡ stranger) ⊎ (standing_of p ≡ sharer) → Read ∷ ws ≡ requests_of p
    → Comes v sharer ws (sent (part_in v p) (gives Read v ∷ []))
given_to_read v (away st (at_home w)) ws s e = into (reads st false) refl (cc) (cc)
given_to_read v (shares st h (at_home w)) ws s e = into (reads st h) refl (cc) (cc)
given_to_read v (upgrades st h) ws s e = cc
given_to_read v (away st quiet) ws s e = cc
given_to_read v (away st (on_way w)) ws s e = cc
given_to_read v (shares st h quiet) ws s e = cc
given_to_read v (shares st h (on_way w)) ws s e = cc
given_to_read v (loses st h q) ws (inl s) e = cc
given_to_read v (loses st h q) ws (inr s) e = cc
given_to_read v (dropped st q) ws (inl s) e = cc
given_to_read v (dropped st q) ws (inr s) e = cc
given_to_read v _ ws s e = cc

-- the line, to one whose request to write is
pub given_to_write : (v : LineData) (p : Phase) (ws : List Want) → (standing_of p ≡ stranger) ⊎ ((standing_of p ≡ sharer) ⊎ (standing_of p ≡ upgrader)) → Write ∷ ws ≡ requests_of p
    → Comes v (owner None) ws (sent (part_in v p) (gives Write v ∷ []))
given_to_write v (away st (at_home w)) ws s e = into (writes st false None) refl (cc) (cc)
given_to_write v (shares st h (at_home w)) ws s e = into (writes st h None) refl (cc) (cc)
given_to_write v (upgrades st h) ws s e = into (writes st h None) refl (cc) (cc)
given_to_write v (away st quiet) ws s e = cc
given_to_write v (away st (on_way w)) ws s e = cc
given_to_write v (shares st h quiet) ws s e = cc
given_to_write v (shares st h (on_way w)) ws s e = cc
given_to_write v (loses st h q) ws (inl s) e = cc
given_to_write v (loses st h q) ws (inr (inl s)) e = cc
given_to_write v (loses st h q) ws (inr (inr s)) e = cc
given_to_write v (dropped st q) ws (inl s) e = cc
given_to_write v (dropped st q) ws (inr (inl s)) e = cc
given_to_write v (dropped st q) ws (inr (inr s)) e = cc
given_to_write v _ ws s e = cc

-- nothing yet, to one that waits until the others have dropped the line
pub waits_to_write : (v : LineData) (p : Phase) (ws : List Want) → (standing_of p ≡ stranger) ⊎ (standing_of p ≡ sharer) → Write ∷ ws ≡ requests_of p
    → Comes v upgrader (Write ∷ ws) (part_in v p)
waits_to_write v (away st (at_home w)) ws s e = into (upgrades st false) refl (cc) (cc)
waits_to_write v (shares st h (at_home w)) ws s e = into (upgrades st h) refl (cc) (cc)
waits_to_write v (away st quiet) ws s e = cc
waits_to_write v (away st (on_way w)) ws s e = cc
waits_to_write v (shares st h quiet) ws s e = cc
waits_to_write v (shares st h (on_way w)) ws s e = cc
waits_to_write v (upgrades st h) ws (inl s) e = cc
waits_to_write v (upgrades st h) ws (inr s) e = cc
waits_to_write v (loses st h q) ws (inl s) e = cc
waits_to_write v (loses st h q) ws (inr s) e = cc
waits_to_write v (dropped st q) ws (inl s) e = cc
waits_to_write v (dropped st q) ws (inr s) e = cc
waits_to_write v _ ws s e = cc

abbrev pub part : Copy → Option Want → List Up → List Down → Part
part copy want up down = record { copy = copy; want = want; up = up; down = down }

-- the word to drop it, to a sharer
pub told_to_drop : (v : LineData) (p : Phase) → standing_of p ≡ sharer → Comes v victim (requests_of p) (sent (part_in v p) (drops ∷ []))
told_to_drop v (shares st h q) e = into (loses st h q) refl refl refl
told_to_drop v (reads st h) e = into (reads_loses st h) refl refl (ap (part (copy_there v h) (Some Read) []) (append_assoc (fetch_there st) (gives Read v ∷ []) (drops ∷ [])))
told_to_drop v _ e = cc

-- a fetch, to the owner
pub fetched_from : (v : LineData) (p : Phase) (w : Want) → standing_of p ≡ owner None → (requests_of p ≡ []) × Comes v (owner (Some w)) [] (sent (part_in v p) (fetches w ∷ []))
fetched_from v (writes st h None) w e =
    (refl, into (writes st h (Some w)) refl refl (ap (part (copy_there v h) (Some Write) []) (append_assoc (fetch_there st) (gives Write v ∷ []) (fetches w ∷ []))))
fetched_from v (writes st h (Some f)) w e = cc
fetched_from v (owns None) w e = (refl, into (owns (Some w)) refl refl refl)
fetched_from v (owns (Some f)) w e = cc
fetched_from v (puts q) w e = (refl, into (puts_fetched w (Some w) q) refl refl refl)
fetched_from v _ w e = cc

-- what a node does with what its home says

pub drops_copy : (v : LineData) (p : Phase) (ds : List Down) → phase_down v p ≡ drops ∷ ds → Comes v (standing_of p) (requests_of p) (with_dropped (part_in v p) ds)
drops_copy v (loses None true quiet) ds e = into (dropped None quiet) refl refl cc
drops_copy v (loses None true (on_way w)) ds e = into (dropped_late None w) refl refl cc
drops_copy v (loses None true (at_home w)) ds e = into (dropped None (at_home w)) refl refl cc
drops_copy v (loses None false quiet) ds e = into (dropped None quiet) refl refl cc
drops_copy v (loses None false (on_way w)) ds e = into (dropped_late None w) refl refl cc
drops_copy v (loses None false (at_home w)) ds e = into (dropped None (at_home w)) refl refl cc
drops_copy v (away None q) ds e = cc
drops_copy v (away (Some f) q) ds e = cc
drops_copy v (shares None h q) ds e = cc
drops_copy v (shares (Some f) h q) ds e = cc
drops_copy v (reads None h) ds e = cc
drops_copy v (reads (Some f) h) ds e = cc
drops_copy v (upgrades None h) ds e = cc
drops_copy v (upgrades (Some f) h) ds e = cc
drops_copy v (loses (Some f) h q) ds e = cc
drops_copy v (reads_loses None h) ds e = cc
drops_copy v (reads_loses (Some f) h) ds e = cc
drops_copy v (dropped None q) ds e = cc
drops_copy v (dropped (Some f) q) ds e = cc
drops_copy v (dropped_late None w) ds e = cc
drops_copy v (dropped_late (Some f) w) ds e = cc
drops_copy v (writes None h f) ds e = cc
drops_copy v (writes (Some g) h f) ds e = cc
drops_copy v (owns None) ds e = cc
drops_copy v (owns (Some f)) ds e = cc
drops_copy v (puts q) ds e = cc
drops_copy v (puts_fetched f None q) ds e = cc
drops_copy v (puts_fetched f (Some g) q) ds e = cc
drops_copy v _ ds e = cc

pub takes_line : (v : LineData) (p : Phase) (w : Want) (d : LineData) (ds : List Down) → phase_down v p ≡ gives w d ∷ ds
    → (d ≡ v) × (phase_want p ≡ Some w) × Comes v (standing_of p) (requests_of p) (with_line w d (part_in v p) ds)
takes_line v (reads None h) w d ds e = (cc, cc, into (shares None true quiet) refl refl cc)
takes_line v (reads_loses None h) w d ds e = (cc, cc, into (loses None true quiet) refl refl cc)
takes_line v (writes None h f) w d ds e = (cc, cc, into (owns f) refl refl cc)
takes_line v (away None q) w d ds e = cc
takes_line v (away (Some f) q) w d ds e = cc
takes_line v (shares None h q) w d ds e = cc
takes_line v (shares (Some f) h q) w d ds e = cc
takes_line v (reads (Some f) h) w d ds e = cc
takes_line v (upgrades None h) w d ds e = cc
takes_line v (upgrades (Some f) h) w d ds e = cc
takes_line v (loses None h q) w d ds e = cc
takes_line v (loses (Some f) h q) w d ds e = cc
takes_line v (reads_loses (Some f) h) w d ds e = cc
takes_line v (dropped None q) w d ds e = cc
takes_line v (dropped (Some f) q) w d ds e = cc
takes_line v (dropped_late None u) w d ds e = cc
takes_line v (dropped_late (Some f) u) w d ds e = cc
takes_line v (writes (Some g) h f) w d ds e = cc
takes_line v (owns None) w d ds e = cc
takes_line v (owns (Some f)) w d ds e = cc
takes_line v (puts q) w d ds e = cc
takes_line v (puts_fetched f None q) w d ds e = cc
takes_line v (puts_fetched f (Some g) q) w d ds e = cc
takes_line v _ w d ds e = cc

-- the line comes to a node that reads it and keeps no copy, as the control server does
pub reads_line : (v : LineData) (p : Phase) (w : Want) (d : LineData) (ds : List Down) → phase_down v p ≡ gives w d ∷ ds → phase_want p ≡ Some Read
    → Comes v (standing_of p) (requests_of p) (part absent None (phase_up v p) ds)
reads_line v (reads None h) w d ds e r = into (shares None false quiet) refl refl cc
reads_line v (reads_loses None h) w d ds e r = into (loses None false quiet) refl refl cc
reads_line v (writes None h f) w d ds e r = cc
reads_line v (away None q) w d ds e r = cc
reads_line v (away (Some f) q) w d ds e r = cc
reads_line v (shares None h q) w d ds e r = cc
reads_line v (shares (Some f) h q) w d ds e r = cc
reads_line v (reads (Some f) h) w d ds e r = cc
reads_line v (upgrades None h) w d ds e r = cc
reads_line v (upgrades (Some f) h) w d ds e r = cc
reads_line v (loses None h q) w d ds e r = cc
reads_line v (loses (Some f) h q) w d ds e r = cc
reads_line v (reads_loses (Some f) h) w d ds e r = cc
reads_line v (dropped None q) w d ds e r = cc
reads_line v (dropped (Some f) q) w d ds e r = cc
reads_line v (dropped_late None u) w d ds e r = cc
reads_line v (dropped_late (Some f) u) w d ds e r = cc
reads_line v (writes (Some g) h f) w d ds e r = cc
reads_line v (owns None) w d ds e r = cc
reads_line v (owns (Some f)) w d ds e r = cc
reads_line v (puts q) w d ds e r = cc
reads_line v (puts_fetched f None q) w d ds e r = cc
reads_line v (puts_fetched f (Some g) q) w d ds e r = cc
reads_line v _ w d ds e r = cc

pub answers_fetch : (v : LineData) (p : Phase) (w : Want) (ds : List Down) → phase_down v p ≡ fetches w ∷ ds
    → Comes v (standing_of p) (requests_of p) (with_fetch w (phase_copy v p) (part_in v p) ds)
answers_fetch v (away (Some f) q) w ds e = into (away None q) refl refl cc
answers_fetch v (shares (Some f) true q) w ds e = into (shares None true q) refl refl cc
answers_fetch v (shares (Some f) false q) w ds e = into (shares None false q) refl refl cc
answers_fetch v (reads (Some f) true) w ds e = into (reads None true) refl refl cc
answers_fetch v (reads (Some f) false) w ds e = into (reads None false) refl refl cc
answers_fetch v (upgrades (Some f) true) w ds e = into (upgrades None true) refl refl cc
answers_fetch v (upgrades (Some f) false) w ds e = into (upgrades None false) refl refl cc
answers_fetch v (loses (Some f) true q) w ds e = into (loses None true q) refl refl cc
answers_fetch v (loses (Some f) false q) w ds e = into (loses None false q) refl refl cc
answers_fetch v (reads_loses (Some f) true) w ds e = into (reads_loses None true) refl refl cc
answers_fetch v (reads_loses (Some f) false) w ds e = into (reads_loses None false) refl refl cc
answers_fetch v (dropped (Some f) q) w ds e = into (dropped None q) refl refl cc
answers_fetch v (dropped_late (Some f) u) w ds e = into (dropped_late None u) refl refl cc
answers_fetch v (writes (Some g) true f) w ds e = into (writes None true f) refl refl cc
answers_fetch v (writes (Some g) false f) w ds e = into (writes None false f) refl refl cc
answers_fetch v (owns (Some Read)) w ds e = into (answers_shared true None) refl refl cc
answers_fetch v (owns (Some Write)) w ds e = into (answers_gone None) refl refl cc
answers_fetch v (puts_fetched f (Some g) q) w ds e = into (puts_fetched f None q) refl refl cc
answers_fetch v (away None q) w ds e = cc
answers_fetch v (shares None h q) w ds e = cc
answers_fetch v (reads None h) w ds e = cc
answers_fetch v (upgrades None h) w ds e = cc
answers_fetch v (loses None h q) w ds e = cc
answers_fetch v (reads_loses None h) w ds e = cc
answers_fetch v (dropped None q) w ds e = cc
answers_fetch v (dropped_late None u) w ds e = cc
answers_fetch v (writes None h f) w ds e = cc
answers_fetch v (owns None) w ds e = cc
answers_fetch v (puts q) w ds e = cc
answers_fetch v (puts_fetched f None q) w ds e = cc
answers_fetch v _ w ds e = cc

-- what a node does by itself

-- it asks for what it doesn't have, or not to write
abbrev pub IsNotWritten : Copy → Type 0
IsNotWritten absent = Unit {0}
IsNotWritten (shared d) = Unit {0}
IsNotWritten (modified d) = ⊥

pub asks_for : (v : LineData) (p : Phase) (w : Want) → phase_want p ≡ None → IsNotWritten (phase_copy v p) → Comes v (standing_of p) (requests_of p) (asked_for w (part_in v p))
asks_for v (away st quiet) w e n = into (away st (on_way w)) refl refl refl
asks_for v (shares st h quiet) w e n = into (shares st h (on_way w)) refl refl refl
asks_for v (loses st h quiet) w e n = into (loses st h (on_way w)) refl refl refl
asks_for v (dropped st quiet) w e n = into (dropped st (on_way w)) refl refl refl
asks_for v (puts None) w e n = into (puts (Some w)) refl refl refl
asks_for v (puts_fetched f there None) w e n = into (puts_fetched f there (Some w)) refl refl refl
asks_for v (answers_shared h None) w e n = into (answers_shared h (Some w)) refl refl refl
asks_for v (answers_gone None) w e n = into (answers_gone (Some w)) refl refl refl
asks_for v (owns f) w e n = absurd n
asks_for v (away st (on_way u)) w e n = cc
asks_for v (away st (at_home u)) w e n = cc
asks_for v (shares st h (on_way u)) w e n = cc
asks_for v (shares st h (at_home u)) w e n = cc
asks_for v (loses st h (on_way u)) w e n = cc
asks_for v (loses st h (at_home u)) w e n = cc
asks_for v (dropped st (on_way u)) w e n = cc
asks_for v (dropped st (at_home u)) w e n = cc
asks_for v _ w e n = cc

-- its copy makes room
pub makes_room : (v : LineData) (p : Phase) → Comes v (standing_of p) (requests_of p) (without_copy (phase_copy v p) (part_in v p))
makes_room v (away st q) = into (away st q) refl refl refl
makes_room v (shares st true q) = into (shares st false q) refl refl refl
makes_room v (shares st false q) = into (shares st false q) refl refl refl
makes_room v (reads st true) = into (reads st false) refl refl refl
makes_room v (reads st false) = into (reads st false) refl refl refl
makes_room v (upgrades st true) = into (upgrades st false) refl refl refl
makes_room v (upgrades st false) = into (upgrades st false) refl refl refl
makes_room v (loses st true q) = into (loses st false q) refl refl refl
makes_room v (loses st false q) = into (loses st false q) refl refl refl
makes_room v (reads_loses st true) = into (reads_loses st false) refl refl refl
makes_room v (reads_loses st false) = into (reads_loses st false) refl refl refl
makes_room v (dropped st q) = into (dropped st q) refl refl refl
makes_room v (dropped_late st w) = into (dropped_late st w) refl refl refl
makes_room v (writes st true f) = into (writes st false f) refl refl refl
makes_room v (writes st false f) = into (writes st false f) refl refl refl
makes_room v (owns None) = into (puts None) refl refl refl
makes_room v (owns (Some f)) = into (puts_fetched f (Some f) None) refl refl refl
makes_room v (puts q) = into (puts q) refl refl refl
makes_room v (puts_fetched f there q) = into (puts_fetched f there q) refl refl refl
makes_room v (answers_shared true q) = into (answers_shared false q) refl refl refl
makes_room v (answers_shared false q) = into (answers_shared false q) refl refl refl
makes_room v (answers_gone q) = into (answers_gone q) refl refl refl

-- it writes the line that it has to write
pub writes_line : (v d e : LineData) (p : Phase) → phase_copy v p ≡ modified e
    → (e ≡ v) × (f : Option Want) × (standing_of p ≡ owner f) × Comes d (standing_of p) (requests_of p) (part (modified d) (phase_want p) (phase_up v p) (phase_down v p))
writes_line v d e (owns f) h = (cc, f, refl, into (owns f) refl refl refl)
writes_line v d e (away st q) h = cc
writes_line v d e (shares st true q) h = cc
writes_line v d e (shares st false q) h = cc
writes_line v d e (reads st true) h = cc
writes_line v d e (reads st false) h = cc
writes_line v d e (upgrades st true) h = cc
writes_line v d e (upgrades st false) h = cc
writes_line v d e (loses st true q) h = cc
writes_line v d e (loses st false q) h = cc
writes_line v d e (reads_loses st true) h = cc
writes_line v d e (reads_loses st false) h = cc
writes_line v d e (writes st true f) h = cc
writes_line v d e (writes st false f) h = cc
writes_line v d e (answers_shared true q) h = cc
writes_line v d e (answers_shared false q) h = cc
writes_line v d e _ h = cc

-- of a stranger the line's value isn't seen
pub unseen : (v d : LineData) (p : Phase) → standing_of p ≡ stranger → part_in d p ≡ part_in v p
unseen v d (away st q) e = refl
unseen v d _ e = cc
