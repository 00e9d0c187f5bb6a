-- `object_contents::layout_of` meets its contract. Assumes nothing.
use Rattle.object_contents.proofs.OneLayout.{layout_is}
use Rattle.object_contents.proofs.layout_of.Goals as goal

pub returns : goal.returns
returns c =
    layout_is c.args.o.now c.args.kinds _
    c.load.ensures c.load-2.ensures c.load-3.ensures
    c.first_of.ensures c.count_of.ensures
    c.first_of-2.ensures c.count_of-2.ensures
    c.first_of-3.ensures c.count_of-3.ensures
    c.first_of-4.ensures c.count_of-4.ensures
    c.first_of-5.ensures c.count_of-5.ensures
    c.first_of-6.ensures c.count_of-6.ensures
    c.first_of-7.ensures c.count_of-7.ensures
    c.first_of-8.ensures c.count_of-8.ensures
    c.first_of-9.ensures c.count_of-9.ensures
    c.first_of-10.ensures c.count_of-10.ensures
