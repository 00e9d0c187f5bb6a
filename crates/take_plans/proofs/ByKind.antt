-- A form by its plan's kind.
-- Assumes nothing.
use mathlib.Core.Path.{◌≡◌, refl}
use mathlib.Core.List.{List}
use mathlib.Core.Option.{Option}
use Rattle.rules_text.specs.Trees.{Name, Digits, Expr, Target, Array, Form, assign, go_to, computed, ifs, loop, continue, stop, end, dimension}
use Rattle.take_kinds.specs.declared.Kind.TheVariants.{Assignment, GoTo, Computed, If, Do, Stop, End, Dimension}
use Rattle.take_kinds.specs.Kinds.{word_of}
use Rattle.take_draft.specs.Draft.{kind_of}
use Rattle.take_plans.specs.Plans.{form_plan}

pub plan_kind : (f : Form) → word_of (form_plan f).kind ≡ kind_of f
unfolding form_plan
plan_kind (assign t e) = refl
plan_kind (go_to n) = refl
plan_kind (computed ns v) = refl
plan_kind (ifs e a b c) = refl
plan_kind (loop n v p q r) = refl
plan_kind continue = refl
plan_kind stop = refl
plan_kind end = refl
plan_kind (dimension arrays) = refl

pub at_assign : (P : Form → Type 0) → ((t : Target) (e : Expr) → P (assign t e)) → (f : Form) → (form_plan f).kind ≡ Assignment → P f
unfolding form_plan
at_assign P h (assign t e) z = h t e
at_assign P h (go_to n) z = absurd cc
at_assign P h (computed ns v) z = absurd cc
at_assign P h (ifs e a b c) z = absurd cc
at_assign P h (loop n v p q r) z = absurd cc
at_assign P h continue z = absurd cc
at_assign P h stop z = absurd cc
at_assign P h end z = absurd cc
at_assign P h (dimension arrays) z = absurd cc

pub at_go_to : (P : Form → Type 0) → ((n : Digits) → P (go_to n)) → (f : Form) → (form_plan f).kind ≡ GoTo → P f
unfolding form_plan
at_go_to P h (assign t e) z = absurd cc
at_go_to P h (go_to n) z = h n
at_go_to P h (computed ns v) z = absurd cc
at_go_to P h (ifs e a b c) z = absurd cc
at_go_to P h (loop n v p q r) z = absurd cc
at_go_to P h continue z = absurd cc
at_go_to P h stop z = absurd cc
at_go_to P h end z = absurd cc
at_go_to P h (dimension arrays) z = absurd cc

pub at_computed : (P : Form → Type 0) → ((ns : List Digits) (v : Name) → P (computed ns v)) → (f : Form) → (form_plan f).kind ≡ Computed → P f
unfolding form_plan
at_computed P h (assign t e) z = absurd cc
at_computed P h (go_to n) z = absurd cc
at_computed P h (computed ns v) z = h ns v
at_computed P h (ifs e a b c) z = absurd cc
at_computed P h (loop n v p q r) z = absurd cc
at_computed P h continue z = absurd cc
at_computed P h stop z = absurd cc
at_computed P h end z = absurd cc
at_computed P h (dimension arrays) z = absurd cc

pub at_if : (P : Form → Type 0) → ((e : Expr) (a b c : Digits) → P (ifs e a b c)) → (f : Form) → (form_plan f).kind ≡ If → P f
unfolding form_plan
at_if P h (assign t e) z = absurd cc
at_if P h (go_to n) z = absurd cc
at_if P h (computed ns v) z = absurd cc
at_if P h (ifs e a b c) z = h e a b c
at_if P h (loop n v p q r) z = absurd cc
at_if P h continue z = absurd cc
at_if P h stop z = absurd cc
at_if P h end z = absurd cc
at_if P h (dimension arrays) z = absurd cc

pub at_do : (P : Form → Type 0) → ((n : Digits) (v : Name) (p q : Expr) (r : Option Expr) → P (loop n v p q r)) → (f : Form) → (form_plan f).kind ≡ Do → P f
unfolding form_plan
at_do P h (assign t e) z = absurd cc
at_do P h (go_to n) z = absurd cc
at_do P h (computed ns v) z = absurd cc
at_do P h (ifs e a b c) z = absurd cc
at_do P h (loop n v p q r) z = h n v p q r
at_do P h continue z = absurd cc
at_do P h stop z = absurd cc
at_do P h end z = absurd cc
at_do P h (dimension arrays) z = absurd cc

pub at_stop_lem : (P : Form → Type 0) → P stop → (f : Form) → (form_plan f).kind ≡ Stop → P f
unfolding form_plan
at_stop_lem P h (assign t e) z = absurd cc
at_stop_lem P h (go_to n) z = absurd cc
at_stop_lem P h (computed ns v) z = absurd cc
at_stop_lem P h (ifs e a b c) z = absurd cc
at_stop_lem P h (loop n v p q r) z = absurd cc
at_stop_lem P h continue z = absurd cc
at_stop_lem P h stop z = h
at_stop_lem P h end z = absurd cc
at_stop_lem P h (dimension arrays) z = absurd cc

pub at_end_lem : (P : Form → Type 0) → P end → (f : Form) → (form_plan f).kind ≡ End → P f
unfolding form_plan
at_end_lem P h (assign t e) z = absurd cc
at_end_lem P h (go_to n) z = absurd cc
at_end_lem P h (computed ns v) z = absurd cc
at_end_lem P h (ifs e a b c) z = absurd cc
at_end_lem P h (loop n v p q r) z = absurd cc
at_end_lem P h continue z = absurd cc
at_end_lem P h stop z = absurd cc
at_end_lem P h end z = h
at_end_lem P h (dimension arrays) z = absurd cc

pub at_dimension : (P : Form → Type 0) → ((arrays : List Array) → P (dimension arrays)) → (f : Form) → (form_plan f).kind ≡ Dimension → P f
unfolding form_plan
at_dimension P h (assign t e) z = absurd cc
at_dimension P h (go_to n) z = absurd cc
at_dimension P h (computed ns v) z = absurd cc
at_dimension P h (ifs e a b c) z = absurd cc
at_dimension P h (loop n v p q r) z = absurd cc
at_dimension P h continue z = absurd cc
at_dimension P h stop z = absurd cc
at_dimension P h end z = absurd cc
at_dimension P h (dimension arrays) z = h arrays
