-- A frame call over records answers and leaves what the one over the byte lists does that they stand for, and 6 does not arise.
use mathlib.Core.Path.{◌≡◌, refl, sym, ap, ◌∙◌}
use mathlib.Core.Bool.{Bool, true, false}
use mathlib.Core.List.{List}
use Prim.Native.Nat.{ℕ}
use Rattle.arithmetic.specs.Outcome.{refuses}
use Rattle.levels.specs.declared.config.FrameFilterConfig.{FrameFilterConfig}
use Rattle.planes.specs.Planes.{Planes}
use Rattle.planes.specs.declared.layout.PlaneLayout.{PlaneLayout}
use Rattle.calls.specs.Pass.{Pass, Call, key_pass, inter_pass, answer, planes_after}
use Rattle.calls.specs.PassCalls.{key_call, inter_call, key_records_call, inter_records_call}
use Rattle.calls.specs.RecordBytes.{key_bytes, inter_bytes}
use Rattle.calls.specs.declared.records.MacroblockModes.{MacroblockModes}
use Rattle.calls.proofs.RecordBytes.{key-as-bytes, inter-as-bytes, key-never-six, inter-never-six}
use Rattle.frame_calls.specs.Skip.{filter_off, skipping, key_frame_pass, inter_frame_pass, frame_call}
use Rattle.frame_calls.proofs.SkipLaws.{beside-pass}

-- what the pass answers and leaves alike, with the same settings and planes, the frame call does
alike : (W : Pass) (a b : Call W) → a.settings ≡ b.settings → a.lent ≡ b.lent → (answer W a ≡ answer W b) × (planes_after W a ≡ planes_after W b)
    → (answer (skipping W) (frame_call W a) ≡ answer (skipping W) (frame_call W b)) × (planes_after (skipping W) (frame_call W a) ≡ planes_after (skipping W) (frame_call W b))
alike W a b s l (e, f) = ((beside-pass W a).same_answer ∙ e ∙ sym (beside-pass W b).same_answer, by (filter_off a.settings) refl)
  where
    of-b : {c : Bool} → filter_off a.settings ≡ c → filter_off b.settings ≡ c
    of-b h = sym (ap filter_off s) ∙ h

    by : (c : Bool) → filter_off a.settings ≡ c → planes_after (skipping W) (frame_call W a) ≡ planes_after (skipping W) (frame_call W b)
    by true off = (beside-pass W a).skipped off ∙ l ∙ sym ((beside-pass W b).skipped (of-b off))
    by false on = (beside-pass W a).not-skipped on ∙ f ∙ sym ((beside-pass W b).not-skipped (of-b on))

module _ (p : Planes) (layout : PlaneLayout) (rs : List MacroblockModes) (config : FrameFilterConfig) (start allowance : ℕ) where
  abbrev key_over : Call key_pass
  key_over = key_records_call p layout rs config start allowance

  abbrev inter_over : Call inter_pass
  inter_over = inter_records_call p layout rs config start allowance

  pub key-frame-as-bytes :
      (answer key_frame_pass (frame_call key_pass key_over) ≡ answer key_frame_pass (frame_call key_pass (key_call p layout (key_bytes rs) config start allowance)))
      × (planes_after key_frame_pass (frame_call key_pass key_over) ≡ planes_after key_frame_pass (frame_call key_pass (key_call p layout (key_bytes rs) config start allowance)))
  key-frame-as-bytes = alike key_pass key_over (key_call p layout (key_bytes rs) config start allowance) refl refl (key-as-bytes p layout rs config start allowance)

  pub inter-frame-as-bytes :
      (answer inter_frame_pass (frame_call inter_pass inter_over) ≡ answer inter_frame_pass (frame_call inter_pass (inter_call p layout (inter_bytes rs) config start allowance)))
      × (planes_after inter_frame_pass (frame_call inter_pass inter_over) ≡ planes_after inter_frame_pass (frame_call inter_pass (inter_call p layout (inter_bytes rs) config start allowance)))
  inter-frame-as-bytes = alike inter_pass inter_over (inter_call p layout (inter_bytes rs) config start allowance) refl refl (inter-as-bytes p layout rs config start allowance)

  pub key-frame-never-six : answer key_frame_pass (frame_call key_pass key_over) ≡ refuses 6 → ⊥
  key-frame-never-six e = key-never-six p layout rs config start allowance (sym (beside-pass key_pass key_over).same_answer ∙ e)

  pub inter-frame-never-six : answer inter_frame_pass (frame_call inter_pass inter_over) ≡ refuses 6 → ⊥
  inter-frame-never-six e = inter-never-six p layout rs config start allowance (sym (beside-pass inter_pass inter_over).same_answer ∙ e)
