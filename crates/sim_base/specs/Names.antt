-- The names that are printed. This simulator's own.
use Rattle.std.specs.Prelude.{ℕ, List, codes}
use Rattle.sim_base.specs.declared.ends.Cause.{Cause}
use Rattle.sim_base.specs.declared.ends.Cause.TheVariants.{InstrMisaligned, InstrAccess, Illegal, Breakpoint, LoadMisaligned, LoadAccess, StoreMisaligned, StoreAccess}

-- the name of a trap's cause
abbrev pub cause_name : Cause → List ℕ
cause_name InstrMisaligned = codes "InstrMisaligned"
cause_name InstrAccess = codes "InstrAccess"
cause_name Illegal = codes "Illegal"
cause_name Breakpoint = codes "Breakpoint"
cause_name LoadMisaligned = codes "LoadMisaligned"
cause_name LoadAccess = codes "LoadAccess"
cause_name StoreMisaligned = codes "StoreMisaligned"
cause_name StoreAccess = codes "StoreAccess"
