use Rattle.std.proofs.Common.{subst}
use Rattle.pairs.specs.Searches.{Tried}
use Rattle.pairs.specs.Tables.{MarkedAt}
use Rattle.pairs.proofs.Adding.{room_left, tried, added_is}
use Rattle.pairs.proofs.putting.put.Goals as goal

pub add-requires : goal.add-requires
add-requires c =
    record { room = room_left c.args.round.now c.args.table.now c.args.pair.kind c.args.pair.set c.requires.running c.args.pair.kind_there c.args.pair.set_there c.requires.new }

pub returns : goal.returns
returns c =
    subst (λ U. Tried c.args.round.now c.args.table.now U (MarkedAt c.args.pair.kind c.args.pair.set) c.asks_for.result)
    (added_is c.args.table.now c.add.new.self c.args.pair.kind c.args.pair.set c.args.node c.add.ensures.count c.add.ensures.nodes c.add.ensures.found)
    (tried c.args.round.now c.args.table.now c.args.pair.kind c.args.pair.set c.requires.running c.args.pair.kind_there c.args.pair.set_there c.requires.new c.args.node c.requires.names c.requires.paper c.asks_for.result c.asks_for.ensures)
