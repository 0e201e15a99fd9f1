-- What is kept of one line; and a request whose turn has come keeps it.
use Rattle.std.proofs.Common.{◌≡◌, ℕ, Bool, true, false, List, [], ◌∷◌, ◌++◌, Some, None, ◌==◌, if◌then◌else◌, refl, sym, ap, ◌∙◌, inl, inr, append-nil}
use Rattle.std.proofs.lemmas.Bool.{cases_Bool}
use Rattle.sim_base.specs.declared.lines.LineData.{LineData}
use Rattle.sim_base.specs.Settings.{default_settings}
use Rattle.wire_msg.specs.declared.lines.Want.{Want}
use Rattle.wire_msg.specs.declared.lines.Want.TheVariants.{Read, Write}
use Rattle.wire_msg.specs.declared.lines.Up.TheVariants.{Asks}
use Rattle.wire_msg.specs.Message.{Down, gives, drops, fetches}
use Rattle.dir_slice.specs.Line.{Request, State, Uncached, Shared, Modified, BusyInv, BusyFetch, Home, fetch, give, is_busy, invalidate, request_row}
use Rattle.dir_slice.specs.Directory.{Step, zero_line}
use Rattle.node_set.specs.NodeSet.{has_node, with_node, without}
use Rattle.dir_slice.specs.Laws.{StateIsOrderly}
use Rattle.dir_slice.proofs.Orderly.{keeps_orderly}
use Rattle.coherence_laws.specs.Part.{Part}
use Rattle.coherence_laws.proofs.Phases.{Standing, sharer, upgrader, victim, owner, part_in, standing, served, waits, Fits, Comes, sent}
use Rattle.coherence_laws.proofs.Moves.{given_to_read, given_to_write, waits_to_write, told_to_drop, fetched_from, part}
use Rattle.coherence_laws.proofs.Nodes.{has_without, has_with_node, words, drops_out, drops_in}

-- where nobody has it to write, the home's memory has the line's value
abbrev pub MemoryHas : State → LineData → LineData → Type 0
MemoryHas Uncached memory v = memory ≡ v
MemoryHas (Shared sharers) memory v = memory ≡ v
MemoryHas (Modified o) memory v = Unit {0}
MemoryHas (BusyInv r left) memory v = memory ≡ v
MemoryHas (BusyFetch w r o) memory v = Unit {0}

-- what every event keeps of one line: each node fits what the home has of it, with one value
pub record Kept (state : State) (memory : LineData) (waiting : List Request) (v : LineData) (n : ℕ → Part) : Type 0 where
  pub fits : (y : ℕ) → Fits state waiting v y (n y)
  pub value : MemoryHas state memory v
  pub orderly : StateIsOrderly state

-- each node is sent what is for it
abbrev pub all_sent : (ℕ → Part) → (ℕ → List Down) → ℕ → Part
all_sent n out y = sent (n y) (out y)

pub sent_nothing : (p : Part) → sent p [] ≡ p
sent_nothing p = ap (part p.copy p.want p.up) (append-nil p.down)

-- a node that nothing is sent to stays where it is
pub stays : (state after : State) (waiting later : List Request) (v : LineData) (y : ℕ) (p : Part) (ds : List Down) → Fits state waiting v y p
    → standing after y ≡ standing state y → served after y ++ waits y later ≡ served state y ++ waits y waiting → ds ≡ [] → Fits after later v y (sent p ds)
stays state after waiting later v y p ds f s r e = record {
  phase = f.phase;
  standing_is = s ∙ f.standing_is;
  requests_are = r ∙ f.requests_are;
  part_is = ap (sent p) e ∙ sent_nothing p ∙ f.part_is;
}

-- a node that this is sent to
pub goes : (state after : State) (waiting later : List Request) (v : LineData) (y : ℕ) (p : Part) (ds ds' : List Down) (says : Standing) (ws : List Want) (f : Fits state waiting v y p)
    → Comes v says ws (sent (part_in v f.phase) ds) → standing after y ≡ says → served after y ++ waits y later ≡ ws → ds' ≡ ds → Fits after later v y (sent p ds')
goes state after waiting later v y p ds ds' says ws f c s r e = record {
  phase = c.phase;
  standing_is = s ∙ c.standing_is;
  requests_are = r ∙ c.requests_are;
  part_is = ap (sent p) e ∙ ap (λ (q : Part). sent q ds) f.part_is ∙ c.part_is;
}

pub comes_silently : (v : LineData) (says : Standing) (ws : List Want) (p : Part) → Comes v says ws p → Comes v says ws (sent p [])
comes_silently v says ws p c = record { phase = c.phase; standing_is = c.standing_is; requests_are = c.requests_are; part_is = sent_nothing p ∙ c.part_is }

-- the rows keep states orderly
if_free : (b : Bool) (x y : Step) → b ≡ false → StateIsOrderly (if b then x else y).home.state → StateIsOrderly y.home.state
if_free true x y e o = cc
if_free false x y e o = o

pub row_orderly : (state : State) (want : Want) (r : ℕ) → is_busy state ≡ false → StateIsOrderly state → StateIsOrderly (request_row state want r).state
row_orderly state want r free o =
    let h : Home = record { state = state; memory = zero_line; waiting = []; delay = 0 } in
    let after = keeps_orderly default_settings 0 0 h r (Asks want) (record { waits_while_busy = λ _. refl; state = o }) in
    if_free (is_busy state) _ _ free after.state

abbrev pub request : ℕ → Want → Request
request r w = record { from = r; want = w }

read_uncached : (m v : LineData) (r : ℕ) (rest : List Request) (n : ℕ → Part) → Kept Uncached m (request r Read ∷ rest) v n
    → Kept (Shared (r ∷ [])) m rest v (all_sent n (words m (give Read r ∷ [])))
read_uncached m v r rest n k =
    let waiting : List Request = request r Read ∷ rest in
    let after : State = Shared (r ∷ []) in
    record {
      fits = λ y. let f = k.fits y in let out : List Down = words m (give Read r ∷ []) y in
          elim (cases_Bool (r == y)) [
            | inl t ↦
                goes Uncached after waiting rest v y (n y) (gives Read v ∷ []) out sharer (waits y rest) f
                (given_to_read v f.phase (waits y rest) (inl (sym f.standing_is)) (cc (f.requests_are))) (cc) refl (cc (k.value))
            | inr t ↦ stays Uncached after waiting rest v y (n y) out f (cc) (cc) (cc)
          ];
      value = k.value;
      orderly = row_orderly Uncached Read r refl k.orderly;
    }

write_uncached : (m v : LineData) (r : ℕ) (rest : List Request) (n : ℕ → Part) → Kept Uncached m (request r Write ∷ rest) v n
    → Kept (Modified r) m rest v (all_sent n (words m (give Write r ∷ [])))
write_uncached m v r rest n k =
    let waiting : List Request = request r Write ∷ rest in
    record {
      fits = λ y. let f = k.fits y in let out : List Down = words m (give Write r ∷ []) y in
          elim (cases_Bool (r == y)) [
            | inl t ↦
                goes Uncached (Modified r) waiting rest v y (n y) (gives Write v ∷ []) out (owner None) (waits y rest) f
                (given_to_write v f.phase (waits y rest) (inl (sym f.standing_is)) (cc (f.requests_are))) (cc) refl (cc (k.value))
            | inr t ↦ stays Uncached (Modified r) waiting rest v y (n y) out f (cc) (cc) (cc)
          ];
      value = tt;
      orderly = tt;
    }

read_shared : (m v : LineData) (r : ℕ) (xs : List ℕ) (rest : List Request) (n : ℕ → Part) → Kept (Shared xs) m (request r Read ∷ rest) v n
    → Kept (Shared (with_node r xs)) m rest v (all_sent n (words m (give Read r ∷ [])))
read_shared m v r xs rest n k =
    let waiting : List Request = request r Read ∷ rest in
    let after : State = Shared (with_node r xs) in
    record {
      fits = λ y. let f = k.fits y in let a = has_with_node r y xs in let out : List Down = words m (give Read r ∷ []) y in
          elim (cases_Bool (r == y)) [
            | inl t ↦
                goes (Shared xs) after waiting rest v y (n y) (gives Read v ∷ []) out sharer (waits y rest) f
                (given_to_read v f.phase (waits y rest) (elim (cases_Bool (has_node y xs)) [ inl u ↦ inr (cc (f.standing_is)) | inr u ↦ inl (cc (f.standing_is)) ]) (cc (f.requests_are)))
                (cc) refl (cc (k.value))
            | inr t ↦ stays (Shared xs) after waiting rest v y (n y) out f (cc) (cc) (cc)
          ];
      value = k.value;
      orderly = row_orderly (Shared xs) Read r refl k.orderly;
    }

write_shared : (m v : LineData) (r : ℕ) (xs ys : List ℕ) (rest : List Request) (n : ℕ → Part) → without r xs ≡ ys → StateIsOrderly (invalidate r ys).state
    → Kept (Shared xs) m (request r Write ∷ rest) v n → Kept (invalidate r ys).state m rest v (all_sent n (words m (invalidate r ys).sent))
write_shared m v r xs [] rest n e o k =
    let waiting : List Request = request r Write ∷ rest in
    record {
      fits = λ y. let f = k.fits y in let a = has_without r y xs in let out : List Down = words m (give Write r ∷ []) y in
          elim (cases_Bool (r == y)) [
            | inl t ↦
                goes (Shared xs) (Modified r) waiting rest v y (n y) (gives Write v ∷ []) out (owner None) (waits y rest) f
                (given_to_write v f.phase (waits y rest) (elim (cases_Bool (has_node y xs)) [ inl u ↦ inr (inl (cc (f.standing_is))) | inr u ↦ inl (cc (f.standing_is)) ]) (cc (f.requests_are)))
                (cc) refl (cc (k.value))
            | inr t ↦ stays (Shared xs) (Modified r) waiting rest v y (n y) out f (cc) (cc) (cc)
          ];
      value = tt;
      orderly = o;
    }
write_shared m v r xs (z ∷ zs) rest n e o k =
    let waiting : List Request = request r Write ∷ rest in
    let after : State = BusyInv r (z ∷ zs) in
    record {
      fits = λ y. let f = k.fits y in
          let a : has_node y (z ∷ zs) ≡ (if r == y then false else has_node y xs) = ap (has_node y) (sym e) ∙ has_without r y xs in
          elim (cases_Bool (r == y)) [
            | inl t ↦
                let out = drops_out m y (z ∷ zs) (cc) in
                goes (Shared xs) after waiting rest v y (n y) [] _ upgrader (Write ∷ waits y rest) f
                (comes_silently v upgrader (Write ∷ waits y rest) (part_in v f.phase)
                (waits_to_write v f.phase (waits y rest) (elim (cases_Bool (has_node y xs)) [ inl u ↦ inr (cc (f.standing_is)) | inr u ↦ inl (cc (f.standing_is)) ]) (cc (f.requests_are))))
                (cc) (cc) out
            | inr t ↦ elim (cases_Bool (has_node y xs)) [
              | inl u ↦
                  let out = drops_in m y (z ∷ zs) o.0 (cc) in
                  goes (Shared xs) after waiting rest v y (n y) (drops ∷ []) _ victim (waits y rest) f
                  (let c = told_to_drop v f.phase (cc (f.standing_is)) in
                  record { phase = c.phase; standing_is = c.standing_is; requests_are = cc (f.requests_are, c.requests_are); part_is = c.part_is })
                  (cc) (cc) out
              | inr u ↦ let out = drops_out m y (z ∷ zs) (cc) in stays (Shared xs) after waiting rest v y (n y) _ f (cc) (cc) out
            ]
          ];
      value = k.value;
      orderly = o;
    }

fetch_owned : (m v : LineData) (r o : ℕ) (w : Want) (rest : List Request) (n : ℕ → Part) → Kept (Modified o) m (request r w ∷ rest) v n
    → Kept (BusyFetch w r o) m rest v (all_sent n (words m (fetch w o ∷ [])))
fetch_owned m v r o w rest n k =
    let waiting : List Request = request r w ∷ rest in
    let after : State = BusyFetch w r o in
    record {
      fits = λ y. let f = k.fits y in let out : List Down = words m (fetch w o ∷ []) y in
          elim (cases_Bool (o == y)) [
            | inl t ↦ let g = fetched_from v f.phase w (cc (f.standing_is)) in
                elim (cases_Bool (r == y)) [
                  | inl u ↦ let h = f.requests_are in let g0 = g.0 in cc
                  | inr u ↦ goes (Modified o) after waiting rest v y (n y) (fetches w ∷ []) out (owner (Some w)) [] f g.1 (cc) (cc (f.requests_are, g.0)) (cc)
                ]
            | inr t ↦ elim (cases_Bool (r == y)) [
              | inl u ↦ stays (Modified o) after waiting rest v y (n y) out f (cc) (cc) (cc)
              | inr u ↦ stays (Modified o) after waiting rest v y (n y) out f (cc) (cc) (cc)
            ]
          ];
      value = tt;
      orderly = tt;
    }

-- each row of a request keeps it
pub serve : (state : State) (m v : LineData) (r : ℕ) (w : Want) (rest : List Request) (n : ℕ → Part) → is_busy state ≡ false → Kept state m (request r w ∷ rest) v n
    → Kept (request_row state w r).state m rest v (all_sent n (words m (request_row state w r).sent))
serve Uncached m v r Read rest n b k = read_uncached m v r rest n k
serve Uncached m v r Write rest n b k = write_uncached m v r rest n k
serve (Shared xs) m v r Read rest n b k = read_shared m v r xs rest n k
serve (Shared xs) m v r Write rest n b k = write_shared m v r xs (without r xs) rest n refl (row_orderly (Shared xs) Write r refl k.orderly) k
serve (Modified o) m v r w rest n b k = fetch_owned m v r o w rest n k
serve (BusyInv q left) m v r w rest n b k = cc
serve (BusyFetch u q o) m v r w rest n b k = cc
