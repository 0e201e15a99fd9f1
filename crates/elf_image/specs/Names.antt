-- The names that are printed. This simulator's own.
use Rattle.std.specs.Prelude.{ℕ, List, codes}
use Rattle.elf_image.specs.declared.refusal.ImageFault.{ImageFault}
use Rattle.elf_image.specs.declared.refusal.ImageFault.TheVariants.{TooLong, Short, Magic, Class, Kind, Machine, Headers, Dynamic, Interp, Tls, Reach, Overlap, WriteExec, Entry}

-- the name of a fault
abbrev pub fault_name : ImageFault → List ℕ
fault_name TooLong = codes "TooLong"
fault_name Short = codes "Short"
fault_name Magic = codes "Magic"
fault_name Class = codes "Class"
fault_name Kind = codes "Kind"
fault_name Machine = codes "Machine"
fault_name Headers = codes "Headers"
fault_name Dynamic = codes "Dynamic"
fault_name Interp = codes "Interp"
fault_name Tls = codes "Tls"
fault_name Reach = codes "Reach"
fault_name Overlap = codes "Overlap"
fault_name WriteExec = codes "WriteExec"
fault_name Entry = codes "Entry"
