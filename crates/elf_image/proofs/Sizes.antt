-- Checked settings are small enough for the address map.
use Rattle.std.proofs.Common.{◌≡◌, ◌≤◌, ◌^◌}
use Rattle.sim_base.specs.declared.settings.Config.{Config}
use Rattle.sim_base.specs.Settings.{IsChecked}
use Rattle.sim_base.proofs.CheckedSettings.{in_range}
use Rattle.elf_image.specs.declared.address_map.Layout.{Layout}
use Rattle.elf_image.specs.Image.{IsProgram}
use Rattle.elf_image.specs.Layout.{Setup, IsLaidOut, layout_of}

pub heap_bound : (c : Config) → IsChecked c → c.heap_bytes ≤ 2 ^ 26
heap_bound c h = (in_range c h).heap_bytes

pub laid_out : (w : Setup) (l : Layout) → IsProgram w.image → IsChecked w.config → l ≡ layout_of w → l.heap_start ≤ 2 ^ 32 → IsLaidOut w l
laid_out w l program checked laid low = record {
  program = program;
  checked = checked;
  laid = laid;
  low = low;
  some_tile = (in_range w.config checked).some_tile;
  tiles = (in_range w.config checked).tiles;
  heap = (in_range w.config checked).heap_bytes;
  some_stack = (in_range w.config checked).some_stack;
  stack = (in_range w.config checked).stack_bytes;
}
