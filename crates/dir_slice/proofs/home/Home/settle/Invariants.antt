use Rattle.std.proofs.Common.{length}
use Rattle.dir_slice.specs.Inner.{IsWithin}
use Rattle.dir_slice.proofs.Settling.{IsLeft}
use Rattle.dir_slice.proofs.home.Home.settle.Given as goal

-- what is left to take up makes, after what was sent, what was to be made
abbrev pub invariant-requests : goal.invariant-requests
invariant-requests l = record {
  within : IsWithin l.site.config.now.tiles l.self;
  left : IsLeft l.site.config.now l.site.tile l.site.line l.initial.self l.initial.out.items l.self l.out.items;
}

abbrev pub decreases-requests : goal.decreases-requests
decreases-requests l = length l.self.waiting
