pub mod InstructionLemmas
