-- What a node does at a line keeps it, and changes its value only by what is written.
use Rattle.std.proofs.Common.{◌≡◌, ℕ, Bool, true, false, List, [], ◌∷◌, ◌++◌, Some, None, ◌==◌, if◌then◌else◌, refl, sym, ap, ◌∙◌, inl, inr, append-nil, subst}
use Rattle.std.proofs.lemmas.Bool.{cases_Bool, cond-true}
use Rattle.std.specs.Prelude.{Option, slice_index, ◌⊎◌}
use Rattle.sim_base.specs.declared.lines.LineData.{LineData}
use Rattle.sim_base.specs.LittleEndian.{loaded}
use Rattle.rv_exec.specs.declared.access.AccessOp.{AccessOp}
use Rattle.rv_exec.specs.declared.access.AccessOp.TheVariants.{Load, Store, Lr, Sc, Amo}
use Rattle.rv_exec.specs.Access.{Asked, finish_by}
use Rattle.wire_msg.specs.declared.lines.Want.{Want}
use Rattle.wire_msg.specs.declared.lines.Want.TheVariants.{Read, Write}
use Rattle.wire_msg.specs.declared.lines.Up.{Up}
use Rattle.wire_msg.specs.Message.{Down, gives, drops, fetches}
use Rattle.tile_core.specs.declared.cores.Status.{Status}
use Rattle.tile_core.specs.declared.cores.Status.TheVariants.{Miss}
use Rattle.tile_core.specs.Core.{line_missed}
use Rattle.tile_core.specs.Gathering.{Gathering}
use Rattle.tile_cache.specs.Copy.{Copy, absent, shared, modified, held_as}
use Rattle.dir_slice.specs.Line.{Request, State, Uncached, Shared, Modified, BusyInv, BusyFetch}
use Rattle.node_set.specs.NodeSet.{has_node}
use Rattle.tile_node.specs.Tile.{access_want, place_in_line}
use Rattle.tile_node.specs.OneLine.{wants_by, want_for, data_written, data_after, Happening, nothing, hit, asked, came, evicted, fetched, copy_after, told_after, wants_after, hold_given, takes, waiting, heard}
use Rattle.tile_node.specs.OneLineLaws.{MayChange, MayHappen}
use Rattle.coherence_laws.specs.Part.{Part}
use Rattle.coherence_laws.specs.Laws.{value_after}
use Rattle.coherence_laws.proofs.Phases.{stranger, owner, Phase, shares, reads, upgrades, loses, reads_loses, writes, answers_shared, copy_there, standing_of, requests_of, phase_copy, phase_want, phase_down, part_in, standing, Fits, Comes, asked_for, with_dropped, with_line, with_fetch, without_copy}
use Rattle.coherence_laws.proofs.Moves.{part, drops_copy, takes_line, reads_line, answers_fetch, IsNotWritten, asks_for, makes_room, writes_line, unseen}
use Rattle.coherence_laws.proofs.Nodes.{equal, same_test}
use Rattle.coherence_laws.proofs.Serve.{MemoryHas, Kept}
use Rattle.coherence_laws.proofs.Take.{with_part, part_here, part_there, fits_at, kept_at, one_moves}

-- a part after what happens to it, with what is on its way to it then
abbrev pub moved : Happening → Part → List Down → Part
moved h p ds = part (copy_after h p.copy) (wants_after h p.want) (p.up ++ told_after h p.copy) ds

pub moved_nothing : (p : Part) → moved nothing p p.down ≡ p
moved_nothing p = ap (λ us. part p.copy p.want us p.down) (append-nil p.up)

evicted_is : (copy : Copy) (want : Option Want) (up : List Up) (down : List Down) → moved evicted (part copy want up down) down ≡ without_copy copy (part copy want up down)
evicted_is absent want up down = ap (λ us. part absent want us down) (append-nil up)
evicted_is (shared d) want up down = ap (λ us. part absent want us down) (append-nil up)
evicted_is (modified d) want up down = refl

fetched_is : (w : Want) (copy : Copy) (want : Option Want) (up : List Up) (down ds : List Down) → moved (fetched w) (part copy want up down) ds ≡ with_fetch w copy (part copy want up down) ds
fetched_is w absent want up down ds = ap (λ us. part absent want us ds) (append-nil up)
fetched_is w (shared d) want up down ds = ap (λ us. part (shared d) want us ds) (append-nil up)
fetched_is w (modified d) want up down ds = refl

came_is : (w : Want) (d : LineData) (p : Part) (ds : List Down) → moved (came (hold_given w) d) p ds ≡ with_line w d p ds
came_is w d p ds = ap (λ us. part (held_as (hold_given w) d) None us ds) (append-nil p.up)

-- who is beside an owner, and what memory owes then

others_strange : (state : State) (x y : ℕ) (f : Option Want) → standing state x ≡ owner f → (x == y) ≡ false → standing state y ≡ stranger
others_strange Uncached x y f e t = refl
others_strange (Shared xs) x y f e t = elim (cases_Bool (has_node x xs)) [ inl u ↦ cc | inr u ↦ cc ]
others_strange (Modified o) x y f e t = elim (cases_Bool (o == x)) [ inl u ↦ (let g = same_test o x y u in cc) | inr u ↦ cc ]
others_strange (BusyInv r left) x y f e t = elim (cases_Bool (r == x)) [ inl u ↦ cc | inr u ↦ elim (cases_Bool (has_node x left)) [ inl z ↦ cc | inr z ↦ cc ] ]
others_strange (BusyFetch w r o) x y f e t = elim (cases_Bool (o == x)) [ inl u ↦ (let g = same_test o x y u in cc) | inr u ↦ cc ]

pub others_are_strange : (state : State) (x y : ℕ) (f : Option Want) → standing state x ≡ owner f → (x == y) ≡ false → standing state y ≡ stranger
others_are_strange = others_strange

owed_nothing : (state : State) (x : ℕ) (f : Option Want) (memory v : LineData) → standing state x ≡ owner f → MemoryHas state memory v
owed_nothing Uncached x f memory v e = cc
owed_nothing (Shared xs) x f memory v e = elim (cases_Bool (has_node x xs)) [ inl u ↦ cc | inr u ↦ cc ]
owed_nothing (Modified o) x f memory v e = tt
owed_nothing (BusyInv r left) x f memory v e = elim (cases_Bool (r == x)) [ inl u ↦ cc | inr u ↦ elim (cases_Bool (has_node x left)) [ inl z ↦ cc | inr z ↦ cc ] ]
owed_nothing (BusyFetch w r o) x f memory v e = tt

-- the owner writes the line
owner_writes : (state : State) (memory : LineData) (waits_there : List Request) (v d : LineData) (x : ℕ) (f : Option Want) (n : ℕ → Part) (k : Kept state memory waits_there v n) (p : Part)
    → standing state x ≡ owner f → Comes d (standing_of (k.fits x).phase) (requests_of (k.fits x).phase) p → Kept state memory waits_there d (with_part x p n)
owner_writes state memory waits_there v d x f n k p o c =
    let g = k.fits x in
    let here : Fits state waits_there d x p = record { phase = c.phase; standing_is = g.standing_is ∙ c.standing_is; requests_are = g.requests_are ∙ c.requests_are; part_is = c.part_is } in
    record {
      fits = λ y. elim (cases_Bool (x == y)) [
        | inl t ↦ fits_at (with_part x p n y) (subst (λ z. Fits state waits_there d z p) (equal x y t) here) (part_here x y p n t)
        | inr t ↦
            let h = k.fits y in
            fits_at (with_part x p n y)
            (record {
              phase = h.phase;
              standing_is = h.standing_is;
              requests_are = h.requests_are;
              part_is = h.part_is ∙ sym (unseen v d h.phase (sym h.standing_is ∙ others_strange state x y f o t));
            })
            (part_there x y p n t)
      ];
      value = owed_nothing state x f memory d o;
      orderly = k.orderly;
    }

-- a copy to read has the line's value
copy_value : (v d : LineData) (h : Bool) → copy_there v h ≡ shared d → d ≡ v
copy_value v d true e = cc
copy_value v d false e = cc

pub shared_value : (v d : LineData) (p : Phase) → phase_copy v p ≡ shared d → d ≡ v
shared_value v d (shares st h q) e = copy_value v d h e
shared_value v d (reads st h) e = copy_value v d h e
shared_value v d (upgrades st h) e = copy_value v d h e
shared_value v d (loses st h q) e = copy_value v d h e
shared_value v d (reads_loses st h) e = copy_value v d h e
shared_value v d (writes st h f) e = copy_value v d h e
shared_value v d (answers_shared h q) e = copy_value v d h e
shared_value v d _ e = cc

same_part : (x : ℕ) (n : ℕ → Part) (p : Part) → p ≡ n x → (y : ℕ) → with_part x p n y ≡ n y
same_part x n p e y = elim (cases_Bool (x == y)) [ inl t ↦ part_here x y p n t ∙ e ∙ ap n (equal x y t) | inr t ↦ part_there x y p n t ]

-- a part that is as it was
pub stays_kept : (state : State) (memory : LineData) (waits_there : List Request) (v : LineData) (x : ℕ) (n : ℕ → Part) (p : Part) → Kept state memory waits_there v n → p ≡ n x
    → Kept state memory waits_there v (with_part x p n)
stays_kept state memory waits_there v x n p k e = kept_at (with_part x p n) k (same_part x n p e)

-- a node moves as its phase does
moves_by : (state : State) (memory : LineData) (waits_there : List Request) (v : LineData) (x : ℕ) (n : ℕ → Part) (k : Kept state memory waits_there v n) (move : Part → Part) (p : Part)
    → Comes v (standing_of (k.fits x).phase) (requests_of (k.fits x).phase) (move (part_in v (k.fits x).phase)) → p ≡ move (n x) → Kept state memory waits_there v (with_part x p n)
moves_by state memory waits_there v x n k move p c e =
    one_moves state memory waits_there v x n k p
    (record { phase = c.phase; standing_is = c.standing_is; requests_are = c.requests_are; part_is = e ∙ ap move (k.fits x).part_is ∙ c.part_is })

copy_is : {state : State} {waits_there : List Request} {v : LineData} {x : ℕ} {p : Part} (f : Fits state waits_there v x p) (copy : Copy) → p.copy ≡ copy → phase_copy v f.phase ≡ copy
copy_is f copy e = sym (ap (λ (p : Part). p.copy) f.part_is) ∙ e

want_is : {state : State} {waits_there : List Request} {v : LineData} {x : ℕ} {p : Part} (f : Fits state waits_there v x p) (want : Option Want) → p.want ≡ want → phase_want f.phase ≡ want
want_is f want e = sym (ap (λ (p : Part). p.want) f.part_is) ∙ e

down_is : {state : State} {waits_there : List Request} {v : LineData} {x : ℕ} {p : Part} (f : Fits state waits_there v x p) (ds : List Down) → p.down ≡ ds → phase_down v f.phase ≡ ds
down_is f ds e = sym (ap (λ (p : Part). p.down) f.part_is) ∙ e

-- it asks for the line
not_written : (w : Want) (copy : Copy) → MayHappen (asked w) copy None → IsNotWritten copy
not_written w absent may = tt
not_written w (shared d) may = tt
not_written w (modified d) may = may.0

pub asks_kept : (state : State) (memory : LineData) (waits_there : List Request) (v : LineData) (x : ℕ) (n : ℕ → Part) (w : Want) → Kept state memory waits_there v n → (n x).want ≡ None → IsNotWritten (n x).copy
    → Kept state memory waits_there v (with_part x (asked_for w (n x)) n)
asks_kept state memory waits_there v x n w k want copy =
    let f = k.fits x in
    moves_by state memory waits_there v x n k (asked_for w) (asked_for w (n x))
    (asks_for v f.phase w (want_is f None want) (subst IsNotWritten (ap (λ (p : Part). p.copy) f.part_is) copy)) refl

-- its copy makes room
pub evicted_kept : (state : State) (memory : LineData) (waits_there : List Request) (v : LineData) (x : ℕ) (n : ℕ → Part) → Kept state memory waits_there v n
    → Kept state memory waits_there v (with_part x (moved evicted (n x) (n x).down) n)
evicted_kept state memory waits_there v x n k =
    let f = k.fits x in
    moves_by state memory waits_there v x n k (λ (p : Part). without_copy p.copy p) (moved evicted (n x) (n x).down) (makes_room v f.phase)
    (evicted_is (n x).copy (n x).want (n x).up (n x).down)

-- an access is done on its copy
hit_kept : (state : State) (memory : LineData) (waits_there : List Request) (v : LineData) (x : ℕ) (n : ℕ → Part) (change : LineData → LineData) (copy : Copy) → Kept state memory waits_there v n
    → (n x).copy ≡ copy → MayChange change copy → Kept state memory waits_there (change v) (with_part x (moved (hit change) (n x) (n x).down) n)
hit_kept state memory waits_there v x n change absent k e may = absurd may
hit_kept state memory waits_there v x n change (shared d) k e may =
    let f = k.fits x in
    let value : d ≡ v = shared_value v d f.phase (copy_is f (shared d) e) in
    let same : change v ≡ v = sym (ap change value) ∙ may ∙ value in
    subst (λ z. Kept state memory waits_there z (with_part x (moved (hit change) (n x) (n x).down) n)) (sym same)
    (stays_kept state memory waits_there v x n (moved (hit change) (n x) (n x).down) k
    (ap (λ c. part (copy_after (hit change) c) (n x).want ((n x).up ++ []) (n x).down) e
    ∙ ap (λ z. part (shared z) (n x).want ((n x).up ++ []) (n x).down) may
    ∙ ap (λ c. part c (n x).want ((n x).up ++ []) (n x).down) (sym e) ∙ moved_nothing (n x)))
hit_kept state memory waits_there v x n change (modified d) k e may =
    let f = k.fits x in
    let c = writes_line v (change v) d f.phase (copy_is f (modified d) e) in
    owner_writes state memory waits_there v (change v) x c.1 n k (moved (hit change) (n x) (n x).down) (f.standing_is ∙ c.2)
    (record {
      phase = c.3.phase;
      standing_is = c.3.standing_is;
      requests_are = c.3.requests_are;
      part_is =
          ap (λ z. part (copy_after (hit change) z) (n x).want ((n x).up ++ []) (n x).down) e
          ∙ ap (λ z. part (modified (change z)) (n x).want ((n x).up ++ []) (n x).down) c.0
          ∙ ap (λ us. part (modified (change v)) (n x).want us (n x).down) (append-nil (n x).up)
          ∙ ap (λ (p : Part). part (modified (change v)) p.want p.up p.down) f.part_is ∙ c.3.part_is;
    })

-- a step is at a line nothing, an access or a request
abbrev pub IsOfStep : Happening → Type 0
IsOfStep nothing = Unit {0}
IsOfStep (hit change) = Unit {0}
IsOfStep (asked w) = Unit {0}
IsOfStep _ = ⊥

pub step_kept : (state : State) (memory : LineData) (waits_there : List Request) (v : LineData) (x : ℕ) (n : ℕ → Part) (status : Status) (h : Happening) → Kept state memory waits_there v n
    → IsOfStep h → MayHappen h (n x).copy (n x).want → Kept state memory waits_there (value_after status h v) (with_part x (moved h (n x) (n x).down) n)
step_kept state memory waits_there v x n status nothing k is may = stays_kept state memory waits_there v x n (moved nothing (n x) (n x).down) k (moved_nothing (n x))
step_kept state memory waits_there v x n status (hit change) k is may = hit_kept state memory waits_there v x n change (n x).copy k refl may.0
step_kept state memory waits_there v x n status (asked w) k is may = asks_kept state memory waits_there v x n w k may.1 (not_written w (n x).copy (may.0, refl))
step_kept state memory waits_there v x n status _ k is may = absurd is

-- the home's words

takes_own : (w : Want) → takes w (Some w) ≡ true
takes_own Read = refl
takes_own Write = refl

pub drops_kept : (state : State) (memory : LineData) (waits_there : List Request) (v : LineData) (x : ℕ) (n : ℕ → Part) (ds : List Down) → Kept state memory waits_there v n → (n x).down ≡ drops ∷ ds
    → Kept state memory waits_there v (with_part x (with_dropped (n x) ds) n)
drops_kept state memory waits_there v x n ds k e =
    let f = k.fits x in
    moves_by state memory waits_there v x n k (λ (p : Part). with_dropped p ds) (with_dropped (n x) ds) (drops_copy v f.phase ds (down_is f (drops ∷ ds) e)) refl

pub fetch_kept : (state : State) (memory : LineData) (waits_there : List Request) (v : LineData) (x : ℕ) (n : ℕ → Part) (w : Want) (ds : List Down) → Kept state memory waits_there v n
    → (n x).down ≡ fetches w ∷ ds → Kept state memory waits_there v (with_part x (with_fetch w (n x).copy (n x) ds) n)
fetch_kept state memory waits_there v x n w ds k e =
    let f = k.fits x in
    moves_by state memory waits_there v x n k (λ (p : Part). with_fetch w p.copy p ds) (with_fetch w (n x).copy (n x) ds)
    (answers_fetch v f.phase w ds (down_is f (fetches w ∷ ds) e)) refl

pub line_wanted : (state : State) (memory : LineData) (waits_there : List Request) (v : LineData) (x : ℕ) (n : ℕ → Part) (w : Want) (d : LineData) (ds : List Down) → Kept state memory waits_there v n
    → (n x).down ≡ gives w d ∷ ds → (d ≡ v) × ((n x).want ≡ Some w)
line_wanted state memory waits_there v x n w d ds k e =
    let f = k.fits x in
    let c = takes_line v f.phase w d ds (down_is f (gives w d ∷ ds) e) in
    (c.0, ap (λ (p : Part). p.want) f.part_is ∙ c.1)

-- the line comes to a node that keeps no copy
pub reads_kept : (state : State) (memory : LineData) (waits_there : List Request) (v : LineData) (x : ℕ) (n : ℕ → Part) (w : Want) (d : LineData) (ds : List Down) → Kept state memory waits_there v n
    → (n x).down ≡ gives w d ∷ ds → (n x).want ≡ Some Read → Kept state memory waits_there v (with_part x (part absent None (n x).up ds) n)
reads_kept state memory waits_there v x n w d ds k e want =
    let f = k.fits x in
    moves_by state memory waits_there v x n k (λ (p : Part). part absent None p.up ds) (part absent None (n x).up ds)
    (reads_line v f.phase w d ds (down_is f (gives w d ∷ ds) e) (want_is f (Some Read) want)) refl

-- the line comes, to be read or to be written, with what the access made of it
line_kept : (state : State) (memory : LineData) (waits_there : List Request) (v : LineData) (x : ℕ) (n : ℕ → Part) (w : Want) (d new : LineData) (ds : List Down) → Kept state memory waits_there v n
    → (n x).down ≡ gives w d ∷ ds → (w ≡ Read → new ≡ d) → Kept state memory waits_there new (with_part x (moved (came (hold_given w) new) (n x) ds) n)
line_kept state memory waits_there v x n Read d new ds k e same =
    let f = k.fits x in
    let c = takes_line v f.phase Read d ds (down_is f (gives Read d ∷ ds) e) in
    let is : new ≡ d = same refl in
    subst (λ z. Kept state memory waits_there z (with_part x (moved (came (hold_given Read) new) (n x) ds) n)) (sym (is ∙ c.0))
    (moves_by state memory waits_there v x n k (λ (p : Part). with_line Read d p ds) (moved (came (hold_given Read) new) (n x) ds) c.2
    (came_is Read new (n x) ds ∙ ap (λ z. with_line Read z (n x) ds) is))
line_kept state memory waits_there v x n Write d new ds k e same =
    let f = k.fits x in
    let c = takes_line v f.phase Write d ds (down_is f (gives Write d ∷ ds) e) in
    let q : Phase = c.2.phase in
    let m : phase_copy v q ≡ modified d = sym (ap (λ (p : Part). p.copy) c.2.part_is) in
    let r = writes_line v new d q m in
    owner_writes state memory waits_there v new x r.1 n k (moved (came (hold_given Write) new) (n x) ds) (f.standing_is ∙ c.2.standing_is ∙ r.2)
    (record {
      phase = r.3.phase;
      standing_is = c.2.standing_is ∙ r.3.standing_is;
      requests_are = c.2.requests_are ∙ r.3.requests_are;
      part_is =
          came_is Write new (n x) ds ∙ ap (λ (p : Part). part (modified new) None p.up ds) f.part_is
          ∙ ap (λ (p : Part). part (modified new) p.want p.up p.down) c.2.part_is ∙ r.3.part_is;
    })

-- what waits for a line to read it leaves its data

load_writes : (op : AccessOp) (access : Asked) (old : ℕ) → access_want op ≡ Read → (finish_by op access old).write ≡ None
load_writes Load access old e = refl
load_writes Store access old e = cc
load_writes Lr access old e = cc
load_writes Sc access old e = cc
load_writes (Amo op) access old e = cc

read_leaves : (access : Option Asked) (content : LineData) → want_for access ≡ Read → data_after access content ≡ content
read_leaves None content e = refl
read_leaves (Some access) content e =
    ap (λ write. data_written access write content) (load_writes access.op access (loaded (slice_index content.bytes) (place_in_line access.addr) access.size) e)

missed_reads : (b : Bool) (access : Option Asked) → (if b then Some (want_for access) else None) ≡ Some Read → want_for access ≡ Read
missed_reads true access e = cc
missed_reads false access e = cc

pub waiting_leaves : (write : Gathering) (k : ℕ) (status : Status) (content : LineData) → wants_by write k status ≡ Some Read → data_after (waiting status) content ≡ content
waiting_leaves write k (Miss access) content e = read_leaves access content (missed_reads (line_missed write access == k) access e)
waiting_leaves write k _ content e = cc

-- what a tile does with what its home says of the line
pub word_kept : (state : State) (memory : LineData) (waits_there : List Request) (v : LineData) (x : ℕ) (n : ℕ → Part) (status : Status) (says : Down) (ds : List Down) → Kept state memory waits_there v n
    → (n x).down ≡ says ∷ ds → ((content : LineData) → (n x).want ≡ Some Read → data_after (waiting status) content ≡ content)
    → Kept state memory waits_there (value_after status (heard status (n x).want says) v) (with_part x (moved (heard status (n x).want says) (n x) ds) n)
word_kept state memory waits_there v x n status drops ds k e leaves = drops_kept state memory waits_there v x n ds k e
word_kept state memory waits_there v x n status (fetches w) ds k e leaves =
    kept_at (with_part x (moved (fetched w) (n x) ds) n) (fetch_kept state memory waits_there v x n w ds k e)
    (λ y. ap (λ p. with_part x p n y) (fetched_is w (n x).copy (n x).want (n x).up (n x).down ds))
word_kept state memory waits_there v x n status (gives w d) ds k e leaves =
    let wanted = line_wanted state memory waits_there v x n w d ds k e in
    let new : LineData = data_after (waiting status) d in
    let taken : takes w (n x).want ≡ true = ap (takes w) wanted.1 ∙ takes_own w in
    let is : heard status (n x).want (gives w d) ≡ came (hold_given w) new = cond-true (takes w (n x).want) (came (hold_given w) new) nothing taken in
    let came_kept : Kept state memory waits_there new (with_part x (moved (came (hold_given w) new) (n x) ds) n) = line_kept state memory waits_there v x n w d new ds k e (λ reads. leaves d (wanted.1 ∙ ap Some reads)) in
    subst (λ h. Kept state memory waits_there (value_after status h v) (with_part x (moved h (n x) ds) n)) (sym is)
    (subst (λ z. Kept state memory waits_there z (with_part x (moved (came (hold_given w) new) (n x) ds) n)) (ap (data_after (waiting status)) wanted.0) came_kept)

-- any other message does nothing there, or the copy makes room
pub other_kept : (state : State) (memory : LineData) (waits_there : List Request) (v : LineData) (x : ℕ) (n : ℕ → Part) (status : Status) (h : Happening) → Kept state memory waits_there v n
    → (h ≡ nothing) ⊎ (h ≡ evicted) → Kept state memory waits_there (value_after status h v) (with_part x (moved h (n x) (n x).down) n)
other_kept state memory waits_there v x n status h k (inl e) =
    subst (λ g. Kept state memory waits_there (value_after status g v) (with_part x (moved g (n x) (n x).down) n)) (sym e)
    (stays_kept state memory waits_there v x n (moved nothing (n x) (n x).down) k (moved_nothing (n x)))
other_kept state memory waits_there v x n status h k (inr e) =
    subst (λ g. Kept state memory waits_there (value_after status g v) (with_part x (moved g (n x) (n x).down) n)) (sym e) (evicted_kept state memory waits_there v x n k)
