-- The lines after the answer are those with the home as the answer leaves it.
use Rattle.dir_slice.specs.Directory.{answered}
use Rattle.dir_slice.proofs.Maps.{known-tree, written-tree, unknown-tree, same-tree}
use Rattle.dir_slice.proofs.Slices.{known_within, insert_within, step_made_if_any, none_made}
use Rattle.dir_slice.proofs.homes.Homes.answer.Goals as goal

pub answer-requires-clause-within : goal.answer-requires-clause-within
answer-requires-clause-within c =
    known_within c.args.site.config.now.tiles c.args.self.now c.args.site.line c.in-Some.home.now c.requires.within
    (known-tree c.args.self.now c.self.inside.known c.args.site.line c.in-Some.home.now c.self.view_is c.in-Some.ensures.value)

pub returns-in-Some-clause-within : goal.returns-in-Some-clause-within
returns-in-Some-clause-within c =
    let n = c.get_mut.follows.lender c.answer.new.self in
    insert_within c.args.site.config.now.tiles c.args.self.now _ c.args.site.line c.answer.new.self c.requires.within
    (written-tree c.args.self.now c.self.inside.known n c.args.site.line c.in-Some.home.now c.answer.new.self c.self.view_is c.in-Some.ensures.value (c.get_mut.follows.holds c.answer.new.self))
    c.answer.ensures.within

pub returns-in-Some-clause-made : goal.returns-in-Some-clause-made
returns-in-Some-clause-made c =
    let site = c.args.site in
    let n = c.get_mut.follows.lender c.answer.new.self in
    step_made_if_any c.args.self.now _ site.line (λ h. answered site.config.now site.tile site.line h c.args.from c.args.says.now) c.in-Some.home.now c.answer.new.self c.answer.result
    c.args.out.now.items c.answer.new.out.items (known-tree c.args.self.now c.self.inside.known site.line c.in-Some.home.now c.self.view_is c.in-Some.ensures.value)
    (written-tree c.args.self.now c.self.inside.known n site.line c.in-Some.home.now c.answer.new.self c.self.view_is c.in-Some.ensures.value (c.get_mut.follows.holds c.answer.new.self))
    c.answer.ensures.made

pub returns-clause-made : goal.returns-clause-made
returns-clause-made c =
    let site = c.args.site in
    none_made site.config.now site.tile site.line c.args.self.now _ c.args.from c.args.says.now c.args.out.now.items
    (unknown-tree c.args.self.now c.self.inside.known site.line c.self.view_is c.in_default.ensures.value)
    (same-tree c.args.self.now c.self.inside.known c.get_mut.follows.lender-at-none c.self.view_is c.get_mut.follows.holds-at-none)
