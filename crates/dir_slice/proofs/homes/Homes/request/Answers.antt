-- The lines after the request are those with the home as the request leaves it.
use Rattle.dir_slice.specs.Directory.{requested}
use Rattle.dir_slice.proofs.Maps.{known-tree, written-tree, unknown-tree, same-tree}
use Rattle.dir_slice.proofs.Slices.{known_within, home_known, insert_within, step_made, put_within, put_made}
use Rattle.dir_slice.proofs.homes.Homes.request.Goals as goal

pub request-requires-clause-within : goal.request-requires-clause-within
request-requires-clause-within c =
    known_within c.args.site.config.now.tiles c.args.self.now c.args.site.line c.in-Some.home.now c.requires.within
    (known-tree c.args.self.now c.self.inside.known c.args.site.line c.in-Some.home.now c.self.view_is c.in-Some.ensures.value)

pub returns-in-Some-clause-within : goal.returns-in-Some-clause-within
returns-in-Some-clause-within c =
    let n = c.get_mut.follows.lender c.request.new.self in
    insert_within c.args.site.config.now.tiles c.args.self.now _ c.args.site.line c.request.new.self c.requires.within
    (written-tree c.args.self.now c.self.inside.known n c.args.site.line c.in-Some.home.now c.request.new.self c.self.view_is c.in-Some.ensures.value (c.get_mut.follows.holds c.request.new.self))
    c.request.ensures.within

pub returns-in-Some-clause-made : goal.returns-in-Some-clause-made
returns-in-Some-clause-made c =
    let site = c.args.site in
    let n = c.get_mut.follows.lender c.request.new.self in
    step_made c.args.self.now _ site.line (λ h. requested site.config.now site.tile site.line h c.args.request) c.in-Some.home.now c.request.new.self c.request.result
    c.args.out.now.items c.request.new.out.items
    (home_known c.args.self.now site.line c.in-Some.home.now (known-tree c.args.self.now c.self.inside.known site.line c.in-Some.home.now c.self.view_is c.in-Some.ensures.value))
    (written-tree c.args.self.now c.self.inside.known n site.line c.in-Some.home.now c.request.new.self c.self.view_is c.in-Some.ensures.value (c.get_mut.follows.holds c.request.new.self))
    c.request.ensures.made

pub returns-clause-within : goal.returns-clause-within
returns-clause-within c =
    put_within c.args.site.config.now.tiles c.args.self.now _ c.put.new.self c.args.site.line _ c.put.result c.requires.within
    (same-tree c.args.self.now c.self.inside.known c.get_mut.follows.lender-at-none c.self.view_is c.get_mut.follows.holds-at-none) c.in_ok-request.ensures.within c.put.ensures.ok c.put.ensures.err

pub returns-clause-made : goal.returns-clause-made
returns-clause-made c =
    let site = c.args.site in
    put_made c.args.self.now _ c.put.new.self site.line (λ h. requested site.config.now site.tile site.line h c.args.request) c.fresh-home.result c.request-2.new.self c.zero_line.result c.put.result
    c.args.out.now.items c.request-2.new.out.items (unknown-tree c.args.self.now c.self.inside.known site.line c.self.view_is c.in_default.ensures.value)
    (same-tree c.args.self.now c.self.inside.known c.get_mut.follows.lender-at-none c.self.view_is c.get_mut.follows.holds-at-none) c.fresh-home.ensures c.zero_line.ensures c.put.ensures.ok
    c.in_ok-request.ensures.made
