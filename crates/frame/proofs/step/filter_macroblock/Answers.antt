use mathlib.Core.Path.{refl, sym, ap, ◌∙◌}
use mathlib.Core.Bool.{Bool, cond}
use Rattle.arithmetic.specs.declared.limits.LoopFilterParams.{LoopFilterParams}
use Rattle.planes.specs.Layout.{grid_of}
use Rattle.planes.specs.Pictures.{planes_lent}
use Rattle.planes.specs.Macroblock.{leave}
use borrow.Author.Tests.{eq-eqb, ne_eqb}
use Rattle.arithmetic.specs.Limits.{derive}
use Rattle.calls.specs.Pass.{plan_with, plan_at}
use Rattle.planes.proofs.StepParts.{macroblock-parts, leave-at}
use Rattle.planes.proofs.SmoothedLaws.{left-smoothed}
use Rattle.planes.specs.Edges.{places}
use Rattle.frame.proofs.PlaneSteps.{stepped-as}
use Rattle.frame.proofs.step.filter_macroblock.Goals as goal

pub returns-then-plan-ne0-clause-stepped : goal.returns-then-plan-ne0-clause-stepped
unfolding plan_at
returns-then-plan-ne0-clause-stepped c =
    let x = c.args in
    stepped-as x.layout x.m (planes_lent x.picture.now) _ _
    (ap (λ (q : LoopFilterParams). plan_with x.config.«simple» q x.plan.inside) c.limits_at-limits.ensures
    ∙ ap (λ (b : Bool). cond b leave (plan_with x.config.«simple» (derive x.plan.level x.config.sharpness_level x.config.key_frame) x.plan.inside)) (sym (ne_eqb x.plan.level 0 c.if-plan-ne0.true)))
    c.filter_with.ensures.stepped

pub returns-else-plan-ne0-clause-stepped : goal.returns-else-plan-ne0-clause-stepped
unfolding plan_at
returns-else-plan-ne0-clause-stepped c = let x = c.args in
    let p = planes_lent x.picture.now in
    let g = grid_of x.layout in
    stepped-as x.layout x.m p p 0
    (ap (λ (b : Bool). cond b leave (plan_with x.config.«simple» (derive x.plan.level x.config.sharpness_level x.config.key_frame) x.plan.inside)) (sym (eq-eqb x.plan.level 0 c.if-plan-ne0.false)))
    (record { planes = sym (macroblock-parts g (λ _. leave) x.m p ∙ leave-at g _ _ places p); smoothed = sym (left-smoothed g (λ _. leave) x.m p refl) })
