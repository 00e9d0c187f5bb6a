-- `read_formats::one` meets its contract. Assumes nothing.
use mathlib.Core.Path.{sym, ◌∙◌}
use Rattle.read_formats.proofs.StepLaws.{moved, one_end, one_blank, no_comma, one_comma, no_slash, one_slash, no_close, one_close, no_field, one_field}
use Rattle.read_formats.proofs.one.Goals as goal

pub returns-then-at-columns : goal.returns-then-at-columns
returns-then-at-columns c =
    one_end c.args.columns.now c.args.words.now c.args.s c.args.place c.if-at-columns.true

pub returns-then-c-eq32 : goal.returns-then-c-eq32
returns-then-c-eq32 c =
    one_blank c.args.columns.now c.args.words.now c.args.s c.args.place c.requires.ready c.if-at-columns.false c.if-c-eq32.true _ (moved c.args.s _ _)

pub returns-then-not-may_comma : goal.returns-then-not-may_comma
returns-then-not-may_comma c =
    no_comma c.args.columns.now c.args.words.now c.args.s c.args.place c.requires.ready c.if-at-columns.false c.if-c-eq44.true (sym c.may_comma.ensures ∙ c.if-not-may_comma.true)

pub returns-then-c-eq44 : goal.returns-then-c-eq44
returns-then-c-eq44 c =
    one_comma c.args.columns.now c.args.words.now c.args.s c.args.place c.requires.ready c.if-at-columns.false c.if-c-eq44.true (sym c.may_comma.ensures ∙ c.if-not-may_comma.false) _ (moved c.args.s _ _)

pub returns-then-not-may_slash : goal.returns-then-not-may_slash
returns-then-not-may_slash c =
    no_slash c.args.columns.now c.args.words.now c.args.s c.args.place c.requires.ready c.if-at-columns.false c.if-c-eq47.true (sym c.may_slash.ensures ∙ c.if-not-may_slash.true)

pub returns-then-c-eq47 : goal.returns-then-c-eq47
returns-then-c-eq47 c =
    one_slash c.args.columns.now c.args.words.now c.args.s c.args.place c.requires.ready c.if-at-columns.false c.if-c-eq47.true (sym c.may_slash.ensures ∙ c.if-not-may_slash.false) c.put-top.new.words c.put-top.result c.put-top.ensures _ (moved c.args.s _ _)

pub returns-then-not-may_close : goal.returns-then-not-may_close
returns-then-not-may_close c =
    no_close c.args.columns.now c.args.words.now c.args.s c.args.place c.requires.ready c.if-at-columns.false c.if-c-eq41.true (sym c.may_close.ensures ∙ c.if-not-may_close.true)

pub returns-then-c-eq41 : goal.returns-then-c-eq41
returns-then-c-eq41 c =
    one_close c.args.columns.now c.args.words.now c.args.s c.args.place c.requires.ready c.if-at-columns.false c.if-c-eq41.true (sym c.may_close.ensures ∙ c.if-not-may_close.false) _ (moved c.args.s _ _)

pub returns-then-not-may_field : goal.returns-then-not-may_field
returns-then-not-may_field c =
    no_field c.args.columns.now c.args.words.now c.args.s c.args.place c.requires.ready c.if-at-columns.false c.if-c-eq32.false c.if-c-eq44.false c.if-c-eq47.false c.if-c-eq41.false (sym c.may_field.ensures ∙ c.if-not-may_field.true)

pub returns : goal.returns
returns c =
    one_field c.args.columns.now c.args.words.now c.args.s c.args.place c.requires.ready c.if-at-columns.false c.if-c-eq32.false c.if-c-eq44.false c.if-c-eq47.false c.if-c-eq41.false (sym c.may_field.ensures ∙ c.if-not-may_field.false) c.field.new.words c.field.result c.field.ensures
