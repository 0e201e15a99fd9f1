-- The home takes a message from a node, and takes up what waits.
use Rattle.std.proofs.Common.{◌≡◌, ℕ, Bool, true, false, List, [], ◌∷◌, ◌++◌, Some, None, ◌==◌, if◌then◌else◌, refl, sym, ap, ◌∙◌, inl, inr, append-nil, append_assoc, subst}
use Rattle.std.proofs.lemmas.Bool.{cases_Bool, cond-true}
use Rattle.std.specs.Prelude.{Option, map}
use Rattle.std.specs.List.{cons_option}
use Rattle.std.specs.Option.{option_map}
use Rattle.sim_base.specs.declared.lines.LineData.{LineData}
use Rattle.sim_base.specs.declared.settings.Config.{Config}
use Rattle.sim_base.specs.Settings.{default_settings}
use Rattle.wire_msg.specs.declared.messages.Msg.{Msg}
use Rattle.wire_msg.specs.declared.lines.Want.{Want}
use Rattle.wire_msg.specs.declared.lines.Want.TheVariants.{Read, Write}
use Rattle.wire_msg.specs.declared.lines.Up.{Up}
use Rattle.wire_msg.specs.declared.lines.Up.TheVariants.{Asks, GivesUp, Acknowledges, HandsOver}
use Rattle.wire_msg.specs.Message.{Down, gives, down_about, downs}
use Rattle.dir_slice.specs.Line.{Request, State, Uncached, Shared, Modified, BusyInv, BusyFetch, Home, Row, Sent, drop_copy, fetch, give, same, is_busy, request_row, ack_row, acked_by, fetch_row, fetched_by, put_row, put_by, memory_after}
use Rattle.dir_slice.specs.Directory.{Mail, Step, message, fixed_delay, in_row, taken_up, before_mail, settled, settle, after_row, requested, reaction, home_after, mail_of, zero_line}
use Rattle.node_set.specs.NodeSet.{has_node, with_node, without}
use Rattle.dir_slice.specs.Laws.{StateIsOrderly}
use Rattle.dir_slice.proofs.Orderly.{keeps_orderly}
use Rattle.event_journal.specs.State.{messages_to}
use Rattle.event_journal.proofs.Views.{first_to, seen_append}
use Rattle.coherence_laws.specs.Part.{Part}
use Rattle.coherence_laws.proofs.Phases.{Standing, stranger, sharer, victim, owner, standing_of, requests_of, phase_up, part_in, standing, served, waits, Fits, Comes, with_up, sent}
use Rattle.coherence_laws.proofs.Moves.{took_request, took_ack, took_put, after_answer, took_answer, given_to_read, given_to_write, part}
use Rattle.coherence_laws.proofs.Nodes.{equal, itself, has_without, has_with_node, receiver, said, words}
use Rattle.coherence_laws.proofs.Serve.{Kept, all_sent, sent_nothing, stays, goes, row_orderly, request, serve}

-- one node has another part
abbrev pub with_part : ℕ → Part → (ℕ → Part) → ℕ → Part
with_part x p n y = if x == y then p else n y

pub part_here : (x y : ℕ) (p : Part) (n : ℕ → Part) → (x == y) ≡ true → with_part x p n y ≡ p
part_here x y p n e = cc

pub part_there : (x y : ℕ) (p : Part) (n : ℕ → Part) → (x == y) ≡ false → with_part x p n y ≡ n y
part_there x y p n e = cc

pub fits_at : {state : State} {waiting : List Request} {v : LineData} {y : ℕ} {a : Part} (b : Part) → Fits state waiting v y a → b ≡ a → Fits state waiting v y b
fits_at b f e = record { phase = f.phase; standing_is = f.standing_is; requests_are = f.requests_are; part_is = e ∙ f.part_is }

pub kept_at : {state : State} {memory : LineData} {waiting : List Request} {v : LineData} {n : ℕ → Part} (m : ℕ → Part) → Kept state memory waiting v n → ((y : ℕ) → m y ≡ n y)
    → Kept state memory waiting v m
kept_at m k e = record { fits = λ y. fits_at (m y) (k.fits y) (e y); value = k.value; orderly = k.orderly }

-- one node moves, and the home stays
pub one_moves : (state : State) (memory : LineData) (waiting : List Request) (v : LineData) (x : ℕ) (n : ℕ → Part) (k : Kept state memory waiting v n) (p : Part)
    → Comes v (standing_of (k.fits x).phase) (requests_of (k.fits x).phase) p → Kept state memory waiting v (with_part x p n)
one_moves state memory waiting v x n k p c =
    let f = k.fits x in
    let here : Fits state waiting v x p = record { phase = c.phase; standing_is = f.standing_is ∙ c.standing_is; requests_are = f.requests_are ∙ c.requests_are; part_is = c.part_is } in
    record {
      fits = λ y. elim (cases_Bool (x == y)) [
        | inl t ↦ fits_at (with_part x p n y) (subst (λ z. Fits state waiting v z p) (equal x y t) here) (part_here x y p n t)
        | inr t ↦ fits_at (with_part x p n y) (k.fits y) (part_there x y p n t)
      ];
      value = k.value;
      orderly = k.orderly;
    }

-- x's own part, and the others', where x's first message is taken
both : (state : State) (waiting : List Request) (v : LineData) (x : ℕ) (p : Part) (out : ℕ → List Down) (n : ℕ → Part) → Fits state waiting v x (sent p (out x))
    → ((y : ℕ) → (x == y) ≡ false → Fits state waiting v y (sent (n y) (out y))) → (y : ℕ) → Fits state waiting v y (all_sent (with_part x p n) out y)
both state waiting v x p out n f g y =
    elim (cases_Bool (x == y)) [
      | inl t ↦
          fits_at (all_sent (with_part x p n) out y) (subst (λ z. Fits state waiting v z (sent p (out z))) (equal x y t) f)
          (ap (λ (q : Part). sent q (out y)) (part_here x y p n t))
      | inr t ↦ fits_at (all_sent (with_part x p n) out y) (g y t) (ap (λ (q : Part). sent q (out y)) (part_there x y p n t))
    ]

own : (state after : State) (waiting later : List Request) (v : LineData) (x : ℕ) (p : Part) (us : List Up) (ds : List Down) (says : Standing) (ws : List Want) (f : Fits state waiting v x p)
    → Comes v says ws (with_up (part_in v f.phase) us) → standing after x ≡ says → served after x ++ waits x later ≡ ws → ds ≡ [] → Fits after later v x (sent (with_up p us) ds)
own state after waiting later v x p us ds says ws f c s r e = record {
  phase = c.phase;
  standing_is = s ∙ c.standing_is;
  requests_are = r ∙ c.requests_are;
  part_is = ap (sent (with_up p us)) e ∙ sent_nothing (with_up p us) ∙ ap (λ (q : Part). with_up q us) f.part_is ∙ c.part_is;
}

up_is : (v : LineData) (state : State) (waiting : List Request) (x : ℕ) (p : Part) (u : Up) (us : List Up) (f : Fits state waiting v x p) → p.up ≡ u ∷ us → phase_up v f.phase ≡ u ∷ us
up_is v state waiting x p u us f e = sym (ap (λ (q : Part). q.up) f.part_is) ∙ e

-- a request comes to wait

waits_more : (y r : ℕ) (w : Want) (waiting : List Request) → waits y (waiting ++ request r w ∷ []) ≡ waits y waiting ++ (if r == y then w ∷ [] else [])
waits_more y r w [] = elim (cases_Bool (r == y)) [ inl t ↦ cc | inr t ↦ cc ]
waits_more y r w (q ∷ rest) = let ih = waits_more y r w rest in elim (cases_Bool (q.from == y)) [ inl t ↦ cc | inr t ↦ cc ]

longer : (s w w' more all : List Want) → s ++ w ≡ all → w' ≡ w ++ more → s ++ w' ≡ all ++ more
longer s w w' more all e f = ap (λ l. s ++ l) f ∙ sym (append_assoc s w more) ∙ ap (λ l. l ++ more) e

took_ask : (state : State) (memory : LineData) (waiting : List Request) (v : LineData) (x : ℕ) (w : Want) (us : List Up) (n : ℕ → Part) → Kept state memory waiting v n
    → (n x).up ≡ Asks w ∷ us → Kept state memory (waiting ++ request x w ∷ []) v (with_part x (with_up (n x) us) n)
took_ask state memory waiting v x w us n k e =
    let f = k.fits x in
    let g = took_request v f.phase w us (up_is v state waiting x (n x) (Asks w) us f e) in
    let later : List Request = waiting ++ request x w ∷ [] in
    let more = waits_more x x w waiting in
    let none : served state x ++ waits x waiting ≡ [] = f.requests_are ∙ g.0 in
    let now : waits x later ≡ waits x waiting ++ w ∷ [] = more ∙ ap (λ l. waits x waiting ++ l) (cond-true (x == x) (w ∷ []) [] (itself x)) in
    let here : Fits state later v x (with_up (n x) us) = record {
      phase = g.1.phase;
      standing_is = f.standing_is ∙ g.1.standing_is;
      requests_are = longer (served state x) (waits x waiting) (waits x later) (w ∷ []) [] none now ∙ g.1.requests_are;
      part_is = ap (λ (q : Part). with_up q us) f.part_is ∙ g.1.part_is;
    } in
    record {
      fits = λ y. elim (cases_Bool (x == y)) [
        | inl t ↦ fits_at _ (subst (λ z. Fits state later v z (with_up (n x) us)) (equal x y t) here) (part_here x y (with_up (n x) us) n t)
        | inr t ↦
            let h = k.fits y in
            let same : waits y later ≡ waits y waiting = waits_more y x w waiting ∙ ap (λ b. waits y waiting ++ (if b then w ∷ [] else [])) t ∙ append-nil (waits y waiting) in
            fits_at _
            (record { phase = h.phase; standing_is = h.standing_is; requests_are = ap (λ l. served state y ++ l) same ∙ h.requests_are; part_is = h.part_is })
            (part_there x y (with_up (n x) us) n t)
      ];
      value = k.value;
      orderly = k.orderly;
    }

-- who stands so with the home

victim_state : (state : State) (x : ℕ) → standing state x ≡ victim → (r : ℕ) × (left : List ℕ) × (state ≡ BusyInv r left) × ((r == x) ≡ false) × (has_node x left ≡ true)
victim_state Uncached x e = cc
victim_state (Shared xs) x e = elim (cases_Bool (has_node x xs)) [ inl t ↦ cc | inr t ↦ cc ]
victim_state (Modified o) x e = elim (cases_Bool (o == x)) [ inl t ↦ cc | inr t ↦ cc ]
victim_state (BusyInv r left) x e = elim (cases_Bool (r == x)) [ inl t ↦ cc | inr t ↦ elim (cases_Bool (has_node x left)) [ inl u ↦ (r, left, refl, t, u) | inr u ↦ cc ] ]
victim_state (BusyFetch w r o) x e = elim (cases_Bool (o == x)) [ inl t ↦ cc | inr t ↦ cc ]

owner_state : (state : State) (x : ℕ) → standing state x ≡ owner None → state ≡ Modified x
owner_state Uncached x e = cc
owner_state (Shared xs) x e = elim (cases_Bool (has_node x xs)) [ inl t ↦ cc | inr t ↦ cc ]
owner_state (Modified o) x e = elim (cases_Bool (o == x)) [ inl t ↦ ap Modified (equal o x t) | inr t ↦ cc ]
owner_state (BusyInv r left) x e = elim (cases_Bool (r == x)) [ inl t ↦ cc | inr t ↦ elim (cases_Bool (has_node x left)) [ inl u ↦ cc | inr u ↦ cc ] ]
owner_state (BusyFetch w r o) x e = elim (cases_Bool (o == x)) [ inl t ↦ cc | inr t ↦ cc ]

fetched_state : (state : State) (x : ℕ) (f : Want) → standing state x ≡ owner (Some f) → (r : ℕ) × (state ≡ BusyFetch f r x)
fetched_state Uncached x f e = cc
fetched_state (Shared xs) x f e = elim (cases_Bool (has_node x xs)) [ inl t ↦ cc | inr t ↦ cc ]
fetched_state (Modified o) x f e = elim (cases_Bool (o == x)) [ inl t ↦ cc | inr t ↦ cc ]
fetched_state (BusyInv r left) x f e = elim (cases_Bool (r == x)) [ inl t ↦ cc | inr t ↦ elim (cases_Bool (has_node x left)) [ inl u ↦ cc | inr u ↦ cc ] ]
fetched_state (BusyFetch w r o) x f e =
    elim (cases_Bool (o == x)) [ inl t ↦ (r, (let a : w ≡ f = cc in let b : o ≡ x = equal o x t in cc)) | inr t ↦ cc ]

-- an acknowledgement
ack_orderly : (r x : ℕ) (left : List ℕ) → StateIsOrderly (BusyInv r left) → StateIsOrderly (acked_by r (without x left)).state
ack_orderly r x left o =
    let h : Home = record { state = BusyInv r left; memory = zero_line; waiting = []; delay = 0 } in
    (keeps_orderly default_settings 0 0 h x Acknowledges (record { waits_while_busy = λ _. refl; state = o })).state

took_acked : (m v : LineData) (x r : ℕ) (left rest : List ℕ) (waiting : List Request) (us : List Up) (n : ℕ → Part) → Kept (BusyInv r left) m waiting v n → (n x).up ≡ Acknowledges ∷ us
    → (r == x) ≡ false → without x left ≡ rest → StateIsOrderly (acked_by r rest).state
    → Kept (acked_by r rest).state m waiting v (all_sent (with_part x (with_up (n x) us) n) (words m (acked_by r rest).sent))
took_acked m v x r left [] waiting us n k e rx z o =
    let f = k.fits x in
    let g = took_ack v f.phase us (up_is v (BusyInv r left) waiting x (n x) Acknowledges us f e) in
    let out : ℕ → List Down = words m (give Write r ∷ []) in
    record {
      fits =
          both (Modified r) waiting v x (with_up (n x) us) out n
          (own (BusyInv r left) (Modified r) waiting waiting v x (n x) us (out x) stranger (requests_of f.phase) f g.1 (cc) (cc (f.requests_are)) (cc))
          (λ y xy. let h = k.fits y in let a = has_without x y left in
          elim (cases_Bool (r == y)) [
            | inl t ↦
                goes (BusyInv r left) (Modified r) waiting waiting v y (n y) (gives Write v ∷ []) (out y) (owner None) (waits y waiting) h
                (given_to_write v h.phase (waits y waiting) (inr (inr (cc (h.standing_is)))) (cc (h.requests_are))) (cc) refl (cc (k.value))
            | inr t ↦ stays (BusyInv r left) (Modified r) waiting waiting v y (n y) (out y) h (cc) (cc) (cc)
          ]);
      value = tt;
      orderly = tt;
    }
took_acked m v x r left (z ∷ zs) waiting us n k e rx w o =
    let f = k.fits x in
    let g = took_ack v f.phase us (up_is v (BusyInv r left) waiting x (n x) Acknowledges us f e) in
    let after : State = BusyInv r (z ∷ zs) in
    let self = itself x in
    let b : has_node x (z ∷ zs) ≡ (if x == x then false else has_node x left) = ap (has_node x) (sym w) ∙ has_without x x left in
    record {
      fits =
          both after waiting v x (with_up (n x) us) (words m []) n
          (own (BusyInv r left) after waiting waiting v x (n x) us [] stranger (requests_of f.phase) f g.1 (cc) (cc (f.requests_are)) refl)
          (λ y xy. let h = k.fits y in
          let a : has_node y (z ∷ zs) ≡ (if x == y then false else has_node y left) = ap (has_node y) (sym w) ∙ has_without x y left in
          elim (cases_Bool (r == y)) [
            | inl t ↦ stays (BusyInv r left) after waiting waiting v y (n y) [] h (cc) (cc) refl
            | inr t ↦ stays (BusyInv r left) after waiting waiting v y (n y) [] h (cc) (cc) refl
          ]);
      value = k.value;
      orderly = o;
    }

-- a line that was given up
took_given : (m v d : LineData) (x : ℕ) (waiting : List Request) (us : List Up) (n : ℕ → Part) → Kept (Modified x) m waiting v n → (n x).up ≡ GivesUp d ∷ us
    → Kept Uncached d waiting v (all_sent (with_part x (with_up (n x) us) n) (words d []))
took_given m v d x waiting us n k e =
    let f = k.fits x in
    let g = took_put v f.phase d us (up_is v (Modified x) waiting x (n x) (GivesUp d) us f e) in
    record {
      fits =
          both Uncached waiting v x (with_up (n x) us) (words d []) n
          (own (Modified x) Uncached waiting waiting v x (n x) us [] stranger [] f g.3 refl (f.requests_are ∙ g.1) refl)
          (λ y xy. let h = k.fits y in stays (Modified x) Uncached waiting waiting v y (n y) [] h (cc) refl refl);
      value = g.0;
      orderly = tt;
    }

-- who asked for the line that is fetched isn't its owner
other_asks : (v : LineData) (w : Want) (r x : ℕ) (waiting : List Request) (p : Part) (f : Fits (BusyFetch w r x) waiting v x p) → requests_of f.phase ≡ [] → (r == x) ≡ false
other_asks v w r x waiting p f e = elim (cases_Bool (r == x)) [ inl t ↦ (let h = f.requests_are in cc) | inr t ↦ t ]

took_given_fetched : (m v d : LineData) (x r : ℕ) (w : Want) (waiting : List Request) (us : List Up) (n : ℕ → Part) → Kept (BusyFetch w r x) m waiting v n → (n x).up ≡ GivesUp d ∷ us
    → Kept (put_by w r).state d waiting v (all_sent (with_part x (with_up (n x) us) n) (words d (put_by w r).sent))
took_given_fetched m v d x r Read waiting us n k e =
    let f = k.fits x in
    let g = took_put v f.phase d us (up_is v (BusyFetch Read r x) waiting x (n x) (GivesUp d) us f e) in
    let after : State = Shared (r ∷ []) in
    let out : ℕ → List Down = words d (give Read r ∷ []) in
    let rx : (r == x) ≡ false = other_asks v Read r x waiting (n x) f g.1 in
    record {
      fits =
          both after waiting v x (with_up (n x) us) out n
          (own (BusyFetch Read r x) after waiting waiting v x (n x) us (out x) stranger [] f g.3 (cc) (cc (f.requests_are, g.1)) (cc))
          (λ y xy. let h = k.fits y in
          elim (cases_Bool (r == y)) [
            | inl t ↦
                goes (BusyFetch Read r x) after waiting waiting v y (n y) (gives Read v ∷ []) (out y) sharer (waits y waiting) h
                (given_to_read v h.phase (waits y waiting) (inl (cc (h.standing_is))) (cc (h.requests_are))) (cc) refl (cc (g.0))
            | inr t ↦ stays (BusyFetch Read r x) after waiting waiting v y (n y) (out y) h (cc) (cc) (cc)
          ]);
      value = g.0;
      orderly = (tt, tt);
    }
took_given_fetched m v d x r Write waiting us n k e =
    let f = k.fits x in
    let g = took_put v f.phase d us (up_is v (BusyFetch Write r x) waiting x (n x) (GivesUp d) us f e) in
    let out : ℕ → List Down = words d (give Write r ∷ []) in
    let rx : (r == x) ≡ false = other_asks v Write r x waiting (n x) f g.1 in
    record {
      fits =
          both (Modified r) waiting v x (with_up (n x) us) out n
          (own (BusyFetch Write r x) (Modified r) waiting waiting v x (n x) us (out x) stranger [] f g.3 (cc) (cc (f.requests_are, g.1)) (cc))
          (λ y xy. let h = k.fits y in
          elim (cases_Bool (r == y)) [
            | inl t ↦
                goes (BusyFetch Write r x) (Modified r) waiting waiting v y (n y) (gives Write v ∷ []) (out y) (owner None) (waits y waiting) h
                (given_to_write v h.phase (waits y waiting) (inl (cc (h.standing_is))) (cc (h.requests_are))) (cc) refl (cc (g.0))
            | inr t ↦ stays (BusyFetch Write r x) (Modified r) waiting waiting v y (n y) (out y) h (cc) (cc) (cc)
          ]);
      value = tt;
      orderly = tt;
    }

-- an answer to a fetch
took_answered : (m v d : LineData) (x r : ℕ) (w : Want) (waiting : List Request) (us : List Up) (n : ℕ → Part) → Kept (BusyFetch w r x) m waiting v n → (n x).up ≡ HandsOver d ∷ us
    → Kept (fetched_by w r x).state d waiting v (all_sent (with_part x (with_up (n x) us) n) (words d (fetched_by w r x).sent))
took_answered m v d x r Read waiting us n k e =
    let f = k.fits x in
    let g = took_answer v f.phase d us (up_is v (BusyFetch Read r x) waiting x (n x) (HandsOver d) us f e) in
    let after : State = Shared (with_node r (x ∷ [])) in
    let out : ℕ → List Down = words d (give Read r ∷ []) in
    let rx : (r == x) ≡ false = other_asks v Read r x waiting (n x) f g.1 in
    let self = itself x in
    let is : g.2.0 ≡ Read = let a = f.standing_is in let b = g.2.1 in cc in
    let gx : Comes v sharer [] (with_up (part_in v f.phase) us) = subst (λ u. Comes v (after_answer u) [] (with_up (part_in v f.phase) us)) is g.2.2 in
    let ax = has_with_node r x (x ∷ []) in
    record {
      fits =
          both after waiting v x (with_up (n x) us) out n
          (own (BusyFetch Read r x) after waiting waiting v x (n x) us (out x) sharer [] f gx (cc) (cc (f.requests_are, g.1)) (cc))
          (λ y xy. let h = k.fits y in let ay = has_with_node r y (x ∷ []) in
          elim (cases_Bool (r == y)) [
            | inl t ↦
                goes (BusyFetch Read r x) after waiting waiting v y (n y) (gives Read v ∷ []) (out y) sharer (waits y waiting) h
                (given_to_read v h.phase (waits y waiting) (inl (cc (h.standing_is))) (cc (h.requests_are))) (cc) refl (cc (g.0))
            | inr t ↦ stays (BusyFetch Read r x) after waiting waiting v y (n y) (out y) h (cc) (cc) (cc)
          ]);
      value = g.0;
      orderly = row_orderly (Shared (x ∷ [])) Read r refl (tt, tt);
    }
took_answered m v d x r Write waiting us n k e =
    let f = k.fits x in
    let g = took_answer v f.phase d us (up_is v (BusyFetch Write r x) waiting x (n x) (HandsOver d) us f e) in
    let out : ℕ → List Down = words d (give Write r ∷ []) in
    let rx : (r == x) ≡ false = other_asks v Write r x waiting (n x) f g.1 in
    let self = itself x in
    let is : g.2.0 ≡ Write = let a = f.standing_is in let b = g.2.1 in cc in
    let gx : Comes v stranger [] (with_up (part_in v f.phase) us) = subst (λ u. Comes v (after_answer u) [] (with_up (part_in v f.phase) us)) is g.2.2 in
    record {
      fits =
          both (Modified r) waiting v x (with_up (n x) us) out n
          (own (BusyFetch Write r x) (Modified r) waiting waiting v x (n x) us (out x) stranger [] f gx (cc) (cc (f.requests_are, g.1)) (cc))
          (λ y xy. let h = k.fits y in
          elim (cases_Bool (r == y)) [
            | inl t ↦
                goes (BusyFetch Write r x) (Modified r) waiting waiting v y (n y) (gives Write v ∷ []) (out y) (owner None) (waits y waiting) h
                (given_to_write v h.phase (waits y waiting) (inl (cc (h.standing_is))) (cc (h.requests_are))) (cc) refl (cc (g.0))
            | inr t ↦ stays (BusyFetch Write r x) (Modified r) waiting waiting v y (n y) (out y) h (cc) (cc) (cc)
          ]);
      value = tt;
      orderly = tt;
    }

-- what a home's mail says of the line to each node

abbrev pub said_to : ℕ → List (ℕ × Msg) → ℕ → List Down
said_to line mail y = downs line (messages_to y mail)

pub said_to_append : (line : ℕ) (a b : Mail) (y : ℕ) → said_to line (a ++ b) y ≡ said_to line a y ++ said_to line b y
said_to_append line a b y = seen_append (down_about line) y a b

message_to : (line : ℕ) (h : Home) (s : Sent) → (message line h s).0 ≡ receiver s
message_to line h (drop_copy to) = refl
message_to line h (fetch want to) = refl
message_to line h (give want to) = refl

message_says : (line : ℕ) (h : Home) (s : Sent) → down_about line (message line h s).1 ≡ Some (said h.memory s)
message_says line h (drop_copy to) = cond-true (line == line) _ None (itself line)
message_says line h (fetch Read to) = cond-true (line == line) _ None (itself line)
message_says line h (fetch Write to) = cond-true (line == line) _ None (itself line)
message_says line h (give Read to) = cond-true (line == line) _ None (itself line)
message_says line h (give Write to) = cond-true (line == line) _ None (itself line)

pub row_said : (line : ℕ) (h : Home) (all : List Sent) (y : ℕ) → said_to line (map (message line h) all) y ≡ words h.memory all y
row_said line h [] y = refl
row_said line h (s ∷ all) y =
    let ih = row_said line h all y in
    first_to (down_about line) y (message line h s) (map (message line h) all)
    ∙ ap (λ x. if x == y then cons_option (down_about line (message line h s).1) (said_to line (map (message line h) all) y) else said_to line (map (message line h) all) y) (message_to line h s)
    ∙ ap (λ o. if receiver s == y then cons_option o (said_to line (map (message line h) all) y) else said_to line (map (message line h) all) y) (message_says line h s)
    ∙ ap (λ l. if receiver s == y then said h.memory s ∷ l else l) ih

-- a step of the home keeps it, with what is sent
abbrev pub KeptBy : ℕ → LineData → (ℕ → Part) → Step → Type 0
KeptBy line v n step = Kept step.home.state step.home.memory step.home.waiting v (all_sent n (said_to line step.mail))

sent_twice : (line : ℕ) (p : Part) (y : ℕ) (a b : Mail) → sent p (said_to line (a ++ b) y) ≡ sent (sent p (said_to line a y)) (said_to line b y)
sent_twice line p y a b = ap (sent p) (said_to_append line a b y) ∙ ap (part p.copy p.want p.up) (sym (append_assoc p.down (said_to line a y) (said_to line b y)))

kept_then : (line : ℕ) (v : LineData) (n : ℕ → Part) (a : Mail) (step : Step) → KeptBy line v (all_sent n (said_to line a)) step → KeptBy line v n (before_mail a step)
kept_then line v n a step k = kept_at (all_sent n (said_to line (a ++ step.mail))) k (λ y. sent_twice line (n y) y a step.mail)

kept_if : (line : ℕ) (v : LineData) (n : ℕ → Part) (b : Bool) (x y : Step) → (b ≡ true → KeptBy line v n x) → (b ≡ false → KeptBy line v n y) → KeptBy line v n (if b then x else y)
kept_if line v n true x y f g = f refl
kept_if line v n false x y f g = g refl

none_sent : (line : ℕ) (v : LineData) (n : ℕ → Part) (h : Home) → Kept h.state h.memory h.waiting v n → KeptBy line v n (record { home = h; mail = [] })
none_sent line v n h k = kept_at (all_sent n (said_to line [])) k (λ y. sent_nothing (n y))

row_kept : (line : ℕ) (v : LineData) (n : ℕ → Part) (h : Home) (row : Row) → Kept row.state h.memory h.waiting v (all_sent n (words h.memory row.sent)) → KeptBy line v n (in_row line h row)
row_kept line v n h row k = kept_at (all_sent n (said_to line (map (message line h) row.sent))) k (λ y. ap (sent (n y)) (row_said line h row.sent y))

-- a request whose turn has come is taken up
takes_up : (c : Config) (tile line : ℕ) (v : LineData) (h : Home) (q : Request) (rest : List Request) (n : ℕ → Part) → is_busy h.state ≡ false → Kept h.state h.memory (q ∷ rest) v n
    → Kept (request_row h.state q.want q.from).state h.memory rest v (all_sent n (said_to line (taken_up c tile line h q).mail))
takes_up c tile line v h q rest n free k =
    let row : Row = request_row h.state q.want q.from in
    kept_at (all_sent n (said_to line (taken_up c tile line h q).mail)) (serve h.state h.memory v q.from q.want rest n free k)
    (λ y. ap (sent (n y)) (row_said line (record h { delay = fixed_delay c tile q.from row.state }) row.sent y))

-- what waits is taken up in order
settles : (c : Config) (tile line : ℕ) (v : LineData) (requests : List Request) (h : Home) (n : ℕ → Part) → Kept h.state h.memory requests v n → KeptBy line v n (settled c tile line h requests)
settles c tile line v [] h n k = none_sent line v n (record h { waiting = [] }) k
settles c tile line v (q ∷ rest) h n k =
    let first : Step = taken_up c tile line h q in
    let after : Step = settled c tile line first.home rest in
    kept_if line v n (is_busy h.state) (record { home = record h { waiting = q ∷ rest }; mail = [] }) (before_mail first.mail after)
    (λ busy. none_sent line v n (record h { waiting = q ∷ rest }) k)
    (λ free. kept_then line v n first.mail after (settles c tile line v rest first.home (all_sent n (said_to line first.mail)) (takes_up c tile line v h q rest n free k)))

settle_kept : (c : Config) (tile line : ℕ) (v : LineData) (n : ℕ → Part) (step : Step) → KeptBy line v n step → KeptBy line v n (settle c tile line step)
settle_kept c tile line v n step k =
    kept_then line v n step.mail (settled c tile line step.home step.home.waiting)
    (settles c tile line v step.home.waiting step.home (all_sent n (said_to line step.mail)) k)

-- what the home makes of a message keeps it
abbrev pub KeptAfter : ℕ → LineData → (ℕ → Part) → Home → Option Step → Type 0
KeptAfter line v n h step =
    Kept (home_after h step).state (home_after h step).memory (home_after h step).waiting v (all_sent n (said_to line (mail_of step)))

row_after : (c : Config) (tile line : ℕ) (v : LineData) (n : ℕ → Part) (h : Home) (says : Up) (found : Option Row) (row : Row) → found ≡ Some row
    → Kept row.state (memory_after says h.memory) h.waiting v (all_sent n (words (memory_after says h.memory) row.sent))
    → KeptAfter line v n h (option_map (after_row c tile line h says) found)
row_after c tile line v n h says found row e k =
    let with_data : Home = record h { memory = memory_after says h.memory } in
    subst (λ (o : Option Row). KeptAfter line v n h (option_map (after_row c tile line h says) o)) (sym e)
    (settle_kept c tile line v n (in_row line with_data row) (row_kept line v n with_data row k))

-- a request waits, or is taken up where none waits
asked_kept : (c : Config) (tile line : ℕ) (v : LineData) (h : Home) (q : Request) (n : ℕ → Part) → (is_busy h.state ≡ false → h.waiting ≡ [])
    → Kept h.state h.memory (h.waiting ++ q ∷ []) v n → KeptBy line v n (requested c tile line h q)
asked_kept c tile line v h q n idle k =
    kept_if line v n (is_busy h.state) (record { home = record h { waiting = h.waiting ++ q ∷ [] }; mail = [] }) (taken_up c tile line h q)
    (λ busy. none_sent line v n (record h { waiting = h.waiting ++ q ∷ [] }) k)
    (λ free.
    let alone : Kept h.state h.memory (q ∷ []) v n = subst (λ waiting. Kept h.state h.memory (waiting ++ q ∷ []) v n) (idle free) k in
    subst (λ waiting. Kept (request_row h.state q.want q.from).state h.memory waiting v (all_sent n (said_to line (taken_up c tile line h q).mail))) (sym (idle free))
    (takes_up c tile line v h q [] n free alone))

pub home_takes : (c : Config) (tile line : ℕ) (h : Home) (v : LineData) (x : ℕ) (u : Up) (us : List Up) (n : ℕ → Part) → (is_busy h.state ≡ false → h.waiting ≡ [])
    → Kept h.state h.memory h.waiting v n → (n x).up ≡ u ∷ us
    → KeptAfter line v (with_part x (with_up (n x) us) n) h (reaction c tile line h x u)
home_takes c tile line h v x (Asks w) us n idle k e =
    asked_kept c tile line v h (request x w) (with_part x (with_up (n x) us) n) idle (took_ask h.state h.memory h.waiting v x w us n k e)
home_takes c tile line h v x Acknowledges us n idle k e =
    let f = k.fits x in
    let g = took_ack v f.phase us (up_is v h.state h.waiting x (n x) Acknowledges us f e) in
    let i = victim_state h.state x (f.standing_is ∙ g.0) in
    let now : Kept (BusyInv i.0 i.1) h.memory h.waiting v n = subst (λ s. Kept s h.memory h.waiting v n) i.2 k in
    row_after c tile line v (with_part x (with_up (n x) us) n) h Acknowledges (ack_row h.state x) (acked_by i.0 (without x i.1)) (ap (λ s. ack_row s x) i.2)
    (took_acked h.memory v x i.0 i.1 (without x i.1) h.waiting us n now e i.3 refl (ack_orderly i.0 x i.1 now.orderly))
home_takes c tile line h v x (GivesUp d) us n idle k e =
    let f = k.fits x in
    let m : ℕ → Part = with_part x (with_up (n x) us) n in
    let g = took_put v f.phase d us (up_is v h.state h.waiting x (n x) (GivesUp d) us f e) in
    elim g.2 [
      | inl a ↦
          let i : h.state ≡ Modified x = owner_state h.state x (f.standing_is ∙ a) in
          row_after c tile line v m h (GivesUp d) (put_row h.state x) (same Uncached) (ap (λ s. put_row s x) i ∙ cond-true (x == x) (Some (same Uncached)) None (itself x))
          (took_given h.memory v d x h.waiting us n (subst (λ s. Kept s h.memory h.waiting v n) i k) e)
      | inr a ↦
          let i = fetched_state h.state x a.0 (f.standing_is ∙ a.1) in
          row_after c tile line v m h (GivesUp d) (put_row h.state x) (put_by a.0 i.0) (ap (λ s. put_row s x) i.1 ∙ cond-true (x == x) (Some (put_by a.0 i.0)) None (itself x))
          (took_given_fetched h.memory v d x i.0 a.0 h.waiting us n (subst (λ s. Kept s h.memory h.waiting v n) i.1 k) e)
    ]
home_takes c tile line h v x (HandsOver d) us n idle k e =
    let f = k.fits x in
    let g = took_answer v f.phase d us (up_is v h.state h.waiting x (n x) (HandsOver d) us f e) in
    let a : Want = g.2.0 in
    let i = fetched_state h.state x a (f.standing_is ∙ g.2.1) in
    row_after c tile line v (with_part x (with_up (n x) us) n) h (HandsOver d) (fetch_row h.state x) (fetched_by a i.0 x)
    (ap (λ s. fetch_row s x) i.1 ∙ cond-true (x == x) (Some (fetched_by a i.0 x)) None (itself x))
    (took_answered h.memory v d x i.0 a h.waiting us n (subst (λ s. Kept s h.memory h.waiting v n) i.1 k) e)
