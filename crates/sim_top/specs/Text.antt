-- What is printed where there is no run, and what the process answers. This simulator's own.
use Rattle.std.specs.Prelude.{ℕ, List, [], ◌++◌, codes, decimal}
use Rattle.elf_image.specs.Names.{fault_name}
use Rattle.sim_config.specs.SettingsFile.{key_of}
use Rattle.stats_report.specs.Text.{line}
use Rattle.sim_top.specs.declared.outcomes.JournalFault.{JournalFault}
use Rattle.sim_top.specs.declared.outcomes.JournalFault.TheVariants.{TooLong, Byte, Event, Unfinished}
use Rattle.sim_top.specs.declared.outcomes.Outcome.{Outcome}
use Rattle.sim_top.specs.declared.outcomes.Outcome.TheVariants.{Done, Written, Trap, Deadlock, Budget, Stuck, Usage, BadConfig, BadImage, BadJournal, ReadFault, WriteFault, NoMemory}

-- why a journal is refused: the first byte of its file that is wrong, the first event that isn't enabled, or that it ends
-- before the run does; bytes and events are counted from 0
abbrev pub journal_text : JournalFault → List ℕ
journal_text TooLong = codes "journal too long"
journal_text (Byte at) = codes "bad journal byte " ++ decimal at
journal_text (Event index) = codes "bad journal event " ++ decimal index
journal_text (Unfinished count) = codes "journal ends at event " ++ decimal count

-- the line that says why there is no run, or none to an end
abbrev pub fault_text : Outcome → List ℕ
fault_text Usage = line (codes "tilesim: usage")
fault_text (BadConfig field) = line (codes "tilesim: bad setting " ++ key_of field)
fault_text (BadImage fault) = line (codes "tilesim: bad image " ++ fault_name fault)
fault_text (BadJournal fault) = line (codes "tilesim: " ++ journal_text fault)
fault_text ReadFault = line (codes "tilesim: read fault")
fault_text Stuck = line (codes "tilesim: stuck")
fault_text _ = []

-- the exit status of the process
abbrev pub status_of : Outcome → ℕ
status_of (Done code) = 0
status_of Written = 0
status_of (Trap thread cause pc) = 1
status_of Deadlock = 2
status_of Budget = 3
status_of Usage = 4
status_of (BadConfig field) = 5
status_of (BadImage fault) = 6
status_of (BadJournal fault) = 7
status_of ReadFault = 8
status_of WriteFault = 9
status_of NoMemory = 10
status_of Stuck = 11
