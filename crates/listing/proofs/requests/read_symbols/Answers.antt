use Rattle.std.proofs.Common.{length, ap, ◌∙◌, arith, length-drop, length-take, rules}
use Rattle.sheet.proofs.Shown.{shown_long}
use Rattle.listing.proofs.Symbols.{none_yet, byte_capped, room_there, one_more, all_taken}
use Rattle.listing.proofs.requests.read_symbols.Goals as goal

pub loop-value-init : goal.loop-value-init
loop-value-init c = none_yet _ _ c.requires.none

pub push-requires : goal.push-requires
push-requires c = let room = room_there _ _ _ _ c.loop-value.invariant c.requires.whole c.in-Some.ensures.0 in search rules

pub loop-value-preserved : goal.loop-value-preserved
loop-value-preserved c =
    one_more _ c.loop-value.rest.now _ _ _ c.in-Some.value _ c.loop-value.invariant c.in-Some.ensures (c.unwrap_or.ensures ∙ byte_capped c.try_from.result c.in-Some.value c.try_from.ensures) c.push.ensures.items

pub loop-value-smaller : goal.loop-value-smaller
loop-value-smaller c =
    let taken = c.in-Some.ensures in
    omega (arith, ap length taken.1, length-drop 4 c.loop-value.rest.now, shown_long _ c.in-Some.value taken.0, length-take 4 c.loop-value.rest.now)

pub returns : goal.returns
returns c = all_taken _ _ _ c.loop-value.invariant c.requires.whole c.in_default.ensures
