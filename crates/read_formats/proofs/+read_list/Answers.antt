use Rattle.read_formats.proofs.ListLaws.{list_wrong, list_closes, group_wrong, reading_start, reading_next, reading_group}
use Rattle.read_formats.proofs.+read_list.Goals as goal

pub loop-u-init : goal.loop-u-init
loop-u-init t c =
    reading_start c.args.columns.now c.args.words.now c.args.s c.args.place c.requires

pub returns-in_err-u : goal.returns-in_err-u
returns-in_err-u t c =
    rw c.from_residual.ensures (c.loop-u.invariant.goes _ _ (list_wrong c.args.columns.now c.loop-u.words c.loop-u.t c.one.new.words _ c.in_err-u.ensures))

pub returns-in-Closes : goal.returns-in-Closes
returns-in-Closes t c =
    c.loop-u.invariant.goes _ _ (list_closes c.args.columns.now c.loop-u.words c.loop-u.t c.one.new.words _ c.in-Closes.u c.loop-u.invariant.ready (rw c.in-Closes.is at c.in_ok-u.ensures))

pub loop-u-preserved-in-Next : goal.loop-u-preserved-in-Next
loop-u-preserved-in-Next t c =
    reading_next c.args.columns.now c.args.words.now c.args.s c.args.place c.loop-u.words c.loop-u.t c.loop-u.p c.loop-u.invariant c.one.new.words c.in-Next.u c.in-Next.q (rw c.in-Next.is at c.in_ok-u.ensures)

pub returns-in_err-v-in-Opens : goal.returns-in_err-v-in-Opens
returns-in_err-v-in-Opens t c =
    rw c.from_residual-in_err-v-in-Opens.ensures (c.loop-u.invariant.goes _ _ (group_wrong c.args.columns.now c.loop-u.words c.loop-u.t c.one.new.words _ c.in-Opens.u c.in-Opens.n (rw c.in-Opens.is at c.in_ok-u.ensures) c.read_list.new.words c.in_err-v-in-Opens.ensures))

pub loop-u-preserved : goal.loop-u-preserved
loop-u-preserved t c =
    reading_group c.args.columns.now c.args.words.now c.args.s c.args.place c.loop-u.words c.loop-u.t c.loop-u.p c.loop-u.invariant c.one.new.words c.in-Opens.u c.in-Opens.n (rw c.in-Opens.is at c.in_ok-u.ensures) c.read_list.new.words c.in_ok-v-in-Opens.v c.in_ok-v-in-Opens.ensures c.repeat-top.new.words c.repeat-top.result c.repeat-top.ensures
