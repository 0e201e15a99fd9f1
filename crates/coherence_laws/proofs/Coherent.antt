-- What is kept of a line makes it coherent.
use Rattle.std.proofs.Common.{◌≡◌, ◌≢◌, ℕ, Bool, true, false, List, [], ◌∷◌, ◌++◌, Some, None, ◌==◌, refl, sym, ap, ◌∙◌, inl, inr, subst}
use Rattle.std.proofs.lemmas.Bool.{cases_Bool, cond-true}
use Rattle.std.specs.Prelude.{Option, ◌⊎◌}
use Rattle.std.specs.List.{All, filter_map}
use Rattle.std.proofs.lemmas.List.Elements.{All-nil, All-cons}
use Rattle.sim_base.specs.declared.lines.LineData.{LineData}
use Rattle.wire_msg.specs.declared.lines.Want.{Want}
use Rattle.wire_msg.specs.declared.lines.Want.TheVariants.{Read, Write}
use Rattle.wire_msg.specs.Message.{gives, drops, Down}
use Rattle.tile_cache.specs.Copy.{absent}
use Rattle.node_set.specs.NodeSet.{has_node}
use Rattle.dir_slice.specs.Line.{Request, State, Uncached, Shared, Modified, BusyInv, BusyFetch}
use Rattle.coherence_laws.specs.Part.{Part}
use Rattle.coherence_laws.specs.Coherence.{IsWritable, HasData, in_copy, in_up, in_down, carried, to_reader}
use Rattle.coherence_laws.proofs.Phases.{Asking, quiet, on_way, at_home, Standing, stranger, sharer, upgrader, victim, owner, Phase, away, shares, reads, upgrades, loses, reads_loses, dropped, dropped_late, writes, owns, puts, puts_fetched, answers_shared, answers_gone, asking_up, behind, fetch_there, copy_there, standing_of, phase_copy, phase_down, part_in, standing, Fits}
use Rattle.coherence_laws.proofs.Nodes.{equal, itself}
use Rattle.coherence_laws.proofs.Serve.{Kept}
use Rattle.coherence_laws.proofs.Acts.{others_are_strange}

-- what a phase carries: the line's value, where its node is the owner

abbrev pub carried_by : Standing → LineData → List LineData
carried_by (owner f) v = v ∷ []
carried_by _ v = []

hidden_copy : (v : LineData) (h : Bool) → in_copy (copy_there v h) ≡ []
hidden_copy v true = refl
hidden_copy v false = refl

hidden_asking : (q : Asking) → filter_map in_up (asking_up q) ≡ []
hidden_asking quiet = refl
hidden_asking (on_way w) = refl
hidden_asking (at_home w) = refl

hidden_behind : (q : Option Want) → filter_map in_up (behind q) ≡ []
hidden_behind None = refl
hidden_behind (Some w) = refl

hidden_fetch : (st : Option Want) → filter_map in_down (fetch_there st) ≡ []
hidden_fetch None = refl
hidden_fetch (Some w) = refl

hidden_front : (st : Option Want) (ds : List Down) → filter_map in_down (fetch_there st ++ ds) ≡ filter_map in_down ds
hidden_front None ds = refl
hidden_front (Some w) ds = refl

joined : (a b c a' b' c' : List LineData) → a ≡ a' → b ≡ b' → c ≡ c' → a ++ b ++ c ≡ a' ++ b' ++ c'
joined a b c a' b' c' e f g = cc

phase_carries : (v : LineData) (p : Phase) → carried (part_in v p) ≡ carried_by (standing_of p) v
phase_carries v (away st q) = joined _ _ _ [] [] [] refl (hidden_asking q) (hidden_fetch st)
phase_carries v (shares st h q) = joined _ _ _ [] [] [] (hidden_copy v h) (hidden_asking q) (hidden_fetch st)
phase_carries v (reads st h) = joined _ _ _ [] [] [] (hidden_copy v h) refl (hidden_front st (gives Read v ∷ []))
phase_carries v (upgrades st h) = joined _ _ _ [] [] [] (hidden_copy v h) refl (hidden_fetch st)
phase_carries v (loses st h q) = joined _ _ _ [] [] [] (hidden_copy v h) (hidden_asking q) (hidden_front st (drops ∷ []))
phase_carries v (reads_loses st h) = joined _ _ _ [] [] [] (hidden_copy v h) refl (hidden_front st (gives Read v ∷ drops ∷ []))
phase_carries v (dropped st q) = joined _ _ _ [] [] [] refl (hidden_asking q) (hidden_fetch st)
phase_carries v (dropped_late st w) = joined _ _ _ [] [] [] refl refl (hidden_fetch st)
phase_carries v (writes st h f) =
    joined _ _ _ [] [] (v ∷ []) (hidden_copy v h) refl (hidden_front st (gives Write v ∷ fetch_there f) ∙ ap (λ l. v ∷ l) (hidden_fetch f))
phase_carries v (owns f) = joined _ _ _ (v ∷ []) [] [] refl refl (hidden_fetch f)
phase_carries v (puts q) = joined _ _ _ [] (v ∷ []) [] refl (ap (λ l. v ∷ l) (hidden_behind q)) refl
phase_carries v (puts_fetched f there q) = joined _ _ _ [] (v ∷ []) [] refl (ap (λ l. v ∷ l) (hidden_behind q)) (hidden_fetch there)
phase_carries v (answers_shared h q) = joined _ _ _ [] (v ∷ []) [] (hidden_copy v h) (ap (λ l. v ∷ l) (hidden_behind q)) refl
phase_carries v (answers_gone q) = joined _ _ _ [] (v ∷ []) [] refl (ap (λ l. v ∷ l) (hidden_behind q)) refl

part_carries : (state : State) (waiting : List Request) (v : LineData) (y : ℕ) (p : Part) → Fits state waiting v y p → carried p ≡ carried_by (standing state y) v
part_carries state waiting v y p f = ap carried f.part_is ∙ phase_carries v f.phase ∙ ap (λ s. carried_by s v) (sym f.standing_is)

-- the owner has it, and no other node
carried_alone : (state : State) (memory : LineData) (waiting : List Request) (v : LineData) (n : ℕ → Part) (o : ℕ) (f : Option Want) → Kept state memory waiting v n → standing state o ≡ owner f
    → (carried (n o) ≡ v ∷ []) × ((y : ℕ) → y ≢ o → carried (n y) ≡ [])
carried_alone state memory waiting v n o f k is = (
  part_carries state waiting v o (n o) (k.fits o) ∙ ap (λ s. carried_by s v) is,
  λ y ne. part_carries state waiting v y (n y) (k.fits y) ∙ elim (cases_Bool (o == y)) [
    | inl t ↦ absurd (ne (sym (equal o y t)))
    | inr t ↦ ap (λ s. carried_by s v) (others_are_strange state o y f is t)
  ],
)

-- where it is: with a node that the home knows as its owner, or with the home
pub data Where (memory v : LineData) (n : ℕ → Part) : Type 0 where
  carried_at : (x : ℕ) → (carried (n x) ≡ v ∷ []) → ((y : ℕ) → y ≢ x → carried (n y) ≡ []) → Where memory v n
  in_memory : ((x : ℕ) → carried (n x) ≡ []) → memory ≡ v → Where memory v n

none_by : (state : State) (waiting : List Request) (v : LineData) (y : ℕ) (p : Part) (s : Standing) → Fits state waiting v y p → standing state y ≡ s → carried_by s v ≡ [] → carried p ≡ []
none_by state waiting v y p s f is none = part_carries state waiting v y p f ∙ ap (λ s. carried_by s v) is ∙ none

shared_none : (sharers : List ℕ) (waiting : List Request) (v : LineData) (y : ℕ) (p : Part) → Fits (Shared sharers) waiting v y p → carried p ≡ []
shared_none sharers waiting v y p f = elim (cases_Bool (has_node y sharers)) [
  | inl t ↦ none_by (Shared sharers) waiting v y p sharer f (cc) refl
  | inr t ↦ none_by (Shared sharers) waiting v y p stranger f (cc) refl
]

busy_none : (r : ℕ) (left : List ℕ) (waiting : List Request) (v : LineData) (y : ℕ) (p : Part) → Fits (BusyInv r left) waiting v y p → carried p ≡ []
busy_none r left waiting v y p f = elim (cases_Bool (r == y)) [
  | inl t ↦ none_by (BusyInv r left) waiting v y p upgrader f (cc) refl
  | inr t ↦ elim (cases_Bool (has_node y left)) [
    | inl u ↦ none_by (BusyInv r left) waiting v y p victim f (cc) refl
    | inr u ↦ none_by (BusyInv r left) waiting v y p stranger f (cc) refl
  ]
]

pub where_is : (state : State) (memory : LineData) (waiting : List Request) (v : LineData) (n : ℕ → Part) → Kept state memory waiting v n → Where memory v n
where_is Uncached memory waiting v n k = in_memory (λ y. none_by Uncached waiting v y (n y) stranger (k.fits y) refl refl) k.value
where_is (Shared sharers) memory waiting v n k = in_memory (λ y. shared_none sharers waiting v y (n y) (k.fits y)) k.value
where_is (BusyInv r left) memory waiting v n k = in_memory (λ y. busy_none r left waiting v y (n y) (k.fits y)) k.value
where_is (Modified o) memory waiting v n k =
    let c = carried_alone (Modified o) memory waiting v n o None k (cond-true (o == o) (owner None) stranger (itself o)) in carried_at o c.0 c.1
where_is (BusyFetch w r o) memory waiting v n k =
    let c = carried_alone (BusyFetch w r o) memory waiting v n o (Some w) k (cond-true (o == o) (owner (Some w)) stranger (itself o)) in carried_at o c.0 c.1

-- copies

data_there : (v : LineData) (h : Bool) → HasData (copy_there v h) v
data_there v true = refl
data_there v false = tt

phase_data : (v : LineData) (p : Phase) → HasData (phase_copy v p) v
phase_data v (away st q) = tt
phase_data v (shares st h q) = data_there v h
phase_data v (reads st h) = data_there v h
phase_data v (upgrades st h) = data_there v h
phase_data v (loses st h q) = data_there v h
phase_data v (reads_loses st h) = data_there v h
phase_data v (dropped st q) = tt
phase_data v (dropped_late st w) = tt
phase_data v (writes st h f) = data_there v h
phase_data v (owns f) = refl
phase_data v (puts q) = tt
phase_data v (puts_fetched f there q) = tt
phase_data v (answers_shared h q) = data_there v h
phase_data v (answers_gone q) = tt

pub copy_data : (state : State) (memory : LineData) (waiting : List Request) (v : LineData) (n : ℕ → Part) → Kept state memory waiting v n → (x : ℕ) → HasData (n x).copy v
copy_data state memory waiting v n k x = let f = k.fits x in subst (λ copy. HasData copy v) (sym (ap (λ (p : Part). p.copy) f.part_is)) (phase_data v f.phase)

-- what is on its way to a reader

reads_fetch : (st : Option Want) → filter_map to_reader (fetch_there st) ≡ []
reads_fetch None = refl
reads_fetch (Some w) = refl

reads_front : (st : Option Want) (ds : List Down) → filter_map to_reader (fetch_there st ++ ds) ≡ filter_map to_reader ds
reads_front None ds = refl
reads_front (Some w) ds = refl

abbrev AllHave : LineData → List LineData → Type 0
AllHave v all = All (λ content. content ≡ v) all

none_has : (v : LineData) (all : List LineData) → all ≡ [] → AllHave v all
none_has v all e = subst (AllHave v) (sym e) (All-nil (λ content. content ≡ v))

one_has : (v : LineData) (all : List LineData) → all ≡ v ∷ [] → AllHave v all
one_has v all e = subst (AllHave v) (sym e) (All-cons (λ content. content ≡ v) v [] refl (All-nil (λ content. content ≡ v)))

phase_reads : (v : LineData) (p : Phase) → AllHave v (filter_map to_reader (phase_down v p))
phase_reads v (away st q) = none_has v _ (reads_fetch st)
phase_reads v (shares st h q) = none_has v _ (reads_fetch st)
phase_reads v (reads st h) = one_has v _ (reads_front st (gives Read v ∷ []))
phase_reads v (upgrades st h) = none_has v _ (reads_fetch st)
phase_reads v (loses st h q) = none_has v _ (reads_front st (drops ∷ []))
phase_reads v (reads_loses st h) = one_has v _ (reads_front st (gives Read v ∷ drops ∷ []))
phase_reads v (dropped st q) = none_has v _ (reads_fetch st)
phase_reads v (dropped_late st w) = none_has v _ (reads_fetch st)
phase_reads v (writes st h f) = none_has v _ (reads_front st (gives Write v ∷ fetch_there f) ∙ reads_fetch f)
phase_reads v (owns f) = none_has v _ (reads_fetch f)
phase_reads v (puts q) = none_has v _ refl
phase_reads v (puts_fetched f there q) = none_has v _ (reads_fetch there)
phase_reads v (answers_shared h q) = none_has v _ refl
phase_reads v (answers_gone q) = none_has v _ refl

pub reader_data : (state : State) (memory : LineData) (waiting : List Request) (v : LineData) (n : ℕ → Part) → Kept state memory waiting v n → (x : ℕ) → AllHave v (filter_map to_reader (n x).down)
reader_data state memory waiting v n k x =
    let f = k.fits x in subst (λ down. AllHave v (filter_map to_reader down)) (sym (ap (λ (p : Part). p.down) f.part_is)) (phase_reads v f.phase)

no_writer : (v : LineData) (h : Bool) → IsWritable (copy_there v h) → ⊥
no_writer v true w = w
no_writer v false w = w

writer_owns : (v : LineData) (p : Phase) → IsWritable (phase_copy v p) → (f : Option Want) × (standing_of p ≡ owner f)
writer_owns v (owns f) w = (f, refl)
writer_owns v (away st q) w = absurd w
writer_owns v (shares st h q) w = absurd (no_writer v h w)
writer_owns v (reads st h) w = absurd (no_writer v h w)
writer_owns v (upgrades st h) w = absurd (no_writer v h w)
writer_owns v (loses st h q) w = absurd (no_writer v h w)
writer_owns v (reads_loses st h) w = absurd (no_writer v h w)
writer_owns v (dropped st q) w = absurd w
writer_owns v (dropped_late st u) w = absurd w
writer_owns v (writes st h f) w = absurd (no_writer v h w)
writer_owns v (puts q) w = absurd w
writer_owns v (puts_fetched f there q) w = absurd w
writer_owns v (answers_shared h q) w = absurd (no_writer v h w)
writer_owns v (answers_gone q) w = absurd w

stranger_absent : (v : LineData) (p : Phase) → standing_of p ≡ stranger → phase_copy v p ≡ absent
stranger_absent v (away st q) e = refl
stranger_absent v _ e = cc

pub one_writer : (state : State) (memory : LineData) (waiting : List Request) (v : LineData) (n : ℕ → Part) → Kept state memory waiting v n → (x y : ℕ) → IsWritable (n x).copy
    → (x ≡ y) ⊎ ((n y).copy ≡ absent)
one_writer state memory waiting v n k x y w =
    let f = k.fits x in
    let g = k.fits y in
    let o = writer_owns v f.phase (subst IsWritable (ap (λ (p : Part). p.copy) f.part_is) w) in
    elim (cases_Bool (x == y)) [
      | inl t ↦ inl (equal x y t)
      | inr t ↦
          inr (ap (λ (p : Part). p.copy) g.part_is
          ∙ stranger_absent v g.phase (sym g.standing_is ∙ others_are_strange state x y o.0 (f.standing_is ∙ o.1) t))
    ]
