-- For the contracts and models of the code alone: no clause of a public function needs this. How the code keeps states
-- and what rows send, which nodes a home knows of, steps that were made, the lines of the start put one after the other,
-- and how slices are told apart.
use Rattle.std.specs.Prelude.{ℕ, ◌≡◌, ◌==◌, ◌&&◌, ◌++◌, ◌<◌, ◌≤◌, ◌⊎◌, Bool, true, false, List, [], ◌∷◌, map, nat_eq, Option, Some, None, IfSome, if◌then◌else◌, refl}
use Rattle.std.specs.List.{All, list_any}
use Rattle.std.specs.Coded.{Coded, code_by, coded×, coded⊎, coded_list, coded_ℕ, coded_bool}
use Rattle.std.specs.FinMap.{FinMap, get, code}
use Rattle.std.specs.Ordering.{nat_cmp}
use base.Stored.{coded_unit}
use mathlib.Core.Logic.{inl, inr}
use Rattle.sim_base.specs.declared.lines.LineData.{LineData}
use Rattle.sim_base.specs.declared.settings.Config.{Config}
use Rattle.sim_base.specs.Numbering.{home_of}
use Rattle.sim_base.specs.Settings.{IsChecked}
use Rattle.elf_image.specs.Layout.{Setup, initial_line}
use Rattle.wire_msg.specs.declared.lines.Want.{Want}
use Rattle.wire_msg.specs.declared.lines.Want.TheVariants.{Read, Write}
use Rattle.dir_slice.specs.declared.rows.Sends.{Sends}
use Rattle.dir_slice.specs.declared.rows.Sends.TheVariants.{Nothing, Invs, Fetch, Data}
use Rattle.dir_slice.specs.declared.states.State.{State as KeptState}
use Rattle.dir_slice.specs.declared.states.State.TheVariants.{Uncached as KeptUncached, Shared as KeptShared, Modified as KeptModified, BusyInv as KeptBusyInv, BusyFetch as KeptBusyFetch}
use Rattle.dir_slice.specs.Line.{State, Uncached, Shared, Modified, BusyInv, BusyFetch, Request, Sent, drop_copy, fetch, give, Row, Home, fresh, awaited}
use Rattle.dir_slice.specs.Directory.{Mail, Step, Slice, message, after_step, mail_of}

-- states, and what rows send, as the code keeps them

-- the state that the code's is
abbrev pub state_of : KeptState → State
state_of KeptUncached = Uncached
state_of (KeptShared sharers) = Shared sharers
state_of (KeptModified owner) = Modified owner
state_of (KeptBusyInv requester left) = BusyInv requester left
state_of (KeptBusyFetch want requester owner) = BusyFetch want requester owner

-- what is sent, in order, where this is the new state
abbrev pub sent_of : State → Sends → List Sent
sent_of state Nothing = []
sent_of state Invs = map drop_copy (awaited state)
sent_of state (Fetch want owner) = fetch want owner ∷ []
sent_of state (Data want to) = give want to ∷ []

-- the row that leads to a state, with what is sent
abbrev pub row_of : State → Sends → Row
row_of state sends = record { state = state; sent = sent_of state sends }

-- the new state is that of the table's row, with what is sent, or the old one where the table has none
abbrev pub IsNext : Option Sends → State → State → Option Row → Type 0
IsNext (Some sends) old new found = found ≡ Some (row_of new sends)
IsNext None old new found = (found ≡ None) × (new ≡ old)

-- which nodes a home knows of: tiles and the control server alone, whose number is the number of tiles

-- the machine that a home is of: its settings are checked, and the home is one of its tiles
pub record IsSite (c : Config) (tile : ℕ) : Type 0 where
  pub checked : IsChecked c
  pub home : tile < c.tiles

-- each node of a state is a tile or the control server of a machine with so many tiles
abbrev pub StateIsWithin : ℕ → State → Type 0
StateIsWithin tiles Uncached = Unit {0}
StateIsWithin tiles (Shared sharers) = All (λ node. node ≤ tiles) sharers
StateIsWithin tiles (Modified owner) = owner ≤ tiles
StateIsWithin tiles (BusyInv requester left) = (requester ≤ tiles) × All (λ node. node ≤ tiles) left
StateIsWithin tiles (BusyFetch want requester owner) = (requester ≤ tiles) × (owner ≤ tiles)

-- and each node of a home: those of its state, and those whose requests wait
pub record IsWithin (tiles : ℕ) (h : Home) : Type 0 where
  pub state : StateIsWithin tiles h.state
  pub waiting : All (λ q. q.from ≤ tiles) h.waiting

-- and each node of each home
abbrev pub AreWithin : ℕ → FinMap nat_cmp Home → Type 0
AreWithin tiles homes = (line : ℕ) → IfSome (get homes line) (IsWithin tiles)

-- steps that were made, by what they leave

-- a step was made: the home is the step's, and its messages are sent after those that were there
pub record IsMade (step : Step) (new : Home) (out_old out_new : Mail) : Type 0 where
  pub home : new ≡ step.home
  pub mail : out_new ≡ out_old ++ step.mail

-- a step was made if there is one, and else nothing
abbrev pub IsMadeIfAny : Option Step → Home → Home → Mail → Mail → Type 0
IsMadeIfAny None old new out_old out_new = (new ≡ old) × (out_new ≡ out_old)
IsMadeIfAny (Some step) old new out_old out_new = IsMade step new out_old out_new

-- the lines after a step of one, if one was made, with its messages sent
pub record AreMade (line : ℕ) (step : Option Step) (old new : FinMap nat_cmp Home) (out_old out_new : Mail) : Type 0 where
  pub homes : new ≡ after_step old line step
  pub mail : out_new ≡ out_old ++ mail_of step

-- the messages of what a home in a row's state sends
abbrev pub sent_mail : ℕ → Home → Sends → Mail
sent_mail line h sends = map (message line h) (sent_of h.state sends)

-- the lines of the start, put one after the other

-- whether a line is among these
abbrev pub has : List ℕ → ℕ → Bool
has lines q = list_any (nat_eq q) lines

-- of these lines, those whose home is the tile were put, with what the image gives them
abbrev pub PutsLines : Setup → ℕ → (ℕ → Bool) → FinMap nat_cmp Home → FinMap nat_cmp Home → Type 0
PutsLines w tile these old new =
    (q : ℕ) → get new q ≡ (if home_of w.config q == tile && these q then Some (fresh (initial_line w q)) else get old q)

-- how slices are told apart: each is stored as pairs, sums and lists of numbers

-- what a line is wanted for, as whether it is to be written
abbrev is_write : Want → Bool
is_write Read = false
is_write Write = true

abbrev want_of : Bool → Want
want_of false = Read
want_of true = Write

pub restored_want : (want : Want) → want_of (is_write want) ≡ want
restored_want Read = refl
restored_want Write = refl

abbrev want_code : Coded Want
want_code = code_by Bool coded_bool is_write want_of restored_want

-- a state as one of five
abbrev Stored : Type 0
Stored = Unit {0} ⊎ (List ℕ ⊎ (ℕ ⊎ ((ℕ × List ℕ) ⊎ (Want × (ℕ × ℕ)))))

abbrev stored : State → Stored
stored Uncached = inl tt
stored (Shared sharers) = inr (inl sharers)
stored (Modified owner) = inr (inr (inl owner))
stored (BusyInv requester left) = inr (inr (inr (inl (requester, left))))
stored (BusyFetch want requester owner) = inr (inr (inr (inr (want, (requester, owner)))))

abbrev restored : Stored → State
restored (inl _) = Uncached
restored (inr (inl sharers)) = Shared sharers
restored (inr (inr (inl owner))) = Modified owner
restored (inr (inr (inr (inl p)))) = BusyInv p.0 p.1
restored (inr (inr (inr (inr p)))) = BusyFetch p.0 p.1.0 p.1.1

pub restored_state : (s : State) → restored (stored s) ≡ s
restored_state Uncached = refl
restored_state (Shared sharers) = refl
restored_state (Modified owner) = refl
restored_state (BusyInv requester left) = refl
restored_state (BusyFetch want requester owner) = refl

abbrev state_code : Coded State
state_code =
    code_by Stored (coded⊎ coded_unit (coded⊎ (coded_list coded_ℕ) (coded⊎ coded_ℕ (coded⊎ (coded× coded_ℕ (coded_list coded_ℕ)) (coded× want_code (coded× coded_ℕ coded_ℕ))))))
    stored restored restored_state

abbrev request_code : Coded Request
request_code = code_by (ℕ × Want) (coded× coded_ℕ want_code) (λ q. (q.from, q.want)) (λ p. record { from = p.0; want = p.1 }) (λ _. refl)

abbrev line_code : Coded LineData
line_code = code_by (List ℕ) (coded_list coded_ℕ) (λ d. d.bytes) (λ bytes. record { bytes = bytes }) (λ _. refl)

abbrev pub home_code : Coded Home
home_code =
    code_by ((State × LineData) × (List Request × ℕ)) (coded× (coded× state_code line_code) (coded× (coded_list request_code) coded_ℕ))
    (λ h. ((h.state, h.memory), (h.waiting, h.delay))) (λ p. record { state = p.0.0; memory = p.0.1; waiting = p.1.0; delay = p.1.1 }) (λ _. refl)

abbrev pub slice_code : Coded Slice
slice_code =
    code_by ((ℕ × ℕ) × (FinMap nat_cmp Home × Bool)) (coded× (coded× coded_ℕ coded_ℕ) (coded× (code coded_ℕ home_code) coded_bool))
    (λ s. ((s.tile, s.tiles), (s.homes, s.spent))) (λ p. record { tile = p.0.0; tiles = p.0.1; homes = p.1.0; spent = p.1.1 }) (λ _. refl)
