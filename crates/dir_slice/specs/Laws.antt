-- What is true of the lines of a slice, whatever nodes tell their home, and before the program runs.
use Rattle.std.specs.Prelude.{ℕ, ◌≡◌, ◌==◌, false, List, [], fold, if◌then◌else◌, Option}
use Rattle.std.specs.FinMap.{FinMap}
use Rattle.std.specs.Ordering.{nat_cmp}
use Rattle.sim_base.specs.declared.lines.LineData.{LineData}
use Rattle.sim_base.specs.declared.settings.Config.{Config}
use Rattle.sim_base.specs.Numbering.{home_of}
use Rattle.elf_image.specs.Layout.{Setup, initial_line}
use Rattle.wire_msg.specs.declared.lines.Up.{Up}
use Rattle.node_set.specs.NodeSet.{Ascends, has_node}
use Rattle.dir_slice.specs.Line.{State, Shared, BusyInv, Home, fresh, is_busy}
use Rattle.dir_slice.specs.Directory.{Step, reaction, home_after, home_at, after_step, start_homes}

-- a state whose set of nodes ascends, and in which a writer waits for some node, and not for itself
abbrev pub StateIsOrderly : State → Type 0
StateIsOrderly (Shared sharers) = Ascends sharers
StateIsOrderly (BusyInv requester left) = Ascends left × ¬ (left ≡ []) × (has_node requester left ≡ false)
StateIsOrderly _ = Unit {0}

-- a home in such a state, of which a request waits only while a transaction is under way
pub record IsOrderly (h : Home) : Type 0 where
  pub waits_while_busy : is_busy h.state ≡ false → h.waiting ≡ []
  pub state : StateIsOrderly h.state

-- a line of which nothing was heard is so
abbrev pub FreshIsOrderly : Type 0
FreshIsOrderly = (memory : LineData) → IsOrderly (fresh memory)

-- and what any node tells its home keeps it so
abbrev pub KeepsOrderly : Type 0
KeepsOrderly = (c : Config) (tile line : ℕ) (h : Home) (from : ℕ) (told : Up) → IsOrderly h → IsOrderly (home_after h (reaction c tile line h from told))

-- a home after all of a list of messages, each with its sender
abbrev pub after_all : Config → ℕ → ℕ → Home → List (ℕ × Up) → Home
after_all c tile line h messages = fold (λ now m. home_after now (reaction c tile line now m.0 m.1)) h messages

-- every home is so, whatever it was told
abbrev pub StaysOrderly : Type 0
StaysOrderly = (c : Config) (tile line : ℕ) (memory : LineData) (messages : List (ℕ × Up)) → IsOrderly (after_all c tile line (fresh memory) messages)

-- a step of one line is seen at that line alone: it is the step's, and each other is as before
abbrev pub OneLineChanges : Type 0
OneLineChanges = (homes : FinMap nat_cmp Home) (line k : ℕ) (step : Option Step)
    → home_at (after_step homes line step) k ≡ (if k == line then home_after (home_at homes line) step else home_at homes k)

-- each line starts at its home with what the image gives it, also where no file has a byte of it
abbrev pub StartsAsTheImage : Type 0
StartsAsTheImage = (w : Setup) (tile line : ℕ) → home_of w.config line ≡ tile → home_at (start_homes w tile) line ≡ fresh (initial_line w line)
