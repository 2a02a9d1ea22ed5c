-- Demand 3 for the frame calls, by name: lists of calls, the rows that may be sent after them, and those that may be sent while the rest is being decoded.
use mathlib.Core.List.{List}
use Rattle.planes.specs.Planes.{Planes}
use Rattle.calls.specs.Pass.{Call}
use Rattle.calls.specs.Calls.{Picture, LastLeft, Calls, OfEveryCall, done, FurtherCalls, Promise}
use Rattle.calls.specs.SentRows.{RowsSent, WhileDecoding}
use Rattle.calls.specs.Smoothed.{OfEveryPart, PartsPromise}
use Rattle.calls.proofs.Demand3.{every_call, demand-3}
use Rattle.calls.proofs.Parts.{every-part, parts-promised}
use Rattle.calls.proofs.SentRows.{rows-sent, while-decoding}
use Rattle.frame_calls.specs.Skip.{key_frame_pass, inter_frame_pass}

-- ---- of every call

pub every-key-frame-call : OfEveryCall key_frame_pass
every-key-frame-call = every_call key_frame_pass

pub every-inter-frame-call : OfEveryCall inter_frame_pass
every-inter-frame-call = every_call inter_frame_pass

pub every-key-frame-part : OfEveryPart key_frame_pass
every-key-frame-part = every-part key_frame_pass

pub every-inter-frame-part : OfEveryPart inter_frame_pass
every-inter-frame-part = every-part inter_frame_pass

module _ (pic : Picture) (p : Planes) where
  -- ---- of a list of calls

  pub key-frame-calls : (list : List (Call key_frame_pass)) (h : LastLeft) → Calls key_frame_pass pic (record { planes = p; start = 0 }) list h → Promise key_frame_pass pic p list h
  key-frame-calls = demand-3 key_frame_pass pic p

  pub inter-frame-calls : (list : List (Call inter_frame_pass)) (h : LastLeft) → Calls inter_frame_pass pic (record { planes = p; start = 0 }) list h → Promise inter_frame_pass pic p list h
  inter-frame-calls = demand-3 inter_frame_pass pic p

  -- ---- the parts of a list add up

  pub key-frame-parts : (list : List (Call key_frame_pass)) (h : LastLeft) → Calls key_frame_pass pic (record { planes = p; start = 0 }) list h → PartsPromise key_frame_pass pic p list
  key-frame-parts = parts-promised key_frame_pass pic p

  pub inter-frame-parts : (list : List (Call inter_frame_pass)) (h : LastLeft) → Calls inter_frame_pass pic (record { planes = p; start = 0 }) list h → PartsPromise inter_frame_pass pic p list
  inter-frame-parts = parts-promised inter_frame_pass pic p

  -- ---- the rows that `final_rows` counts after it

  pub key-frame-rows-sent : (list : List (Call key_frame_pass)) (h : LastLeft) → Calls key_frame_pass pic (record { planes = p; start = 0 }) list h → RowsSent key_frame_pass pic p list h
  key-frame-rows-sent = rows-sent key_frame_pass pic p

  pub inter-frame-rows-sent : (list : List (Call inter_frame_pass)) (h : LastLeft) → Calls inter_frame_pass pic (record { planes = p; start = 0 }) list h → RowsSent inter_frame_pass pic p list h
  inter-frame-rows-sent = rows-sent inter_frame_pass pic p

  -- ---- the rows that may be sent while the rest is being decoded

  pub key-frame-while-decoding :
      (list : List (Call key_frame_pass)) (h : LastLeft) → Calls key_frame_pass pic (record { planes = p; start = 0 }) list h
      → (h₁ : LastLeft) → FurtherCalls key_frame_pass pic (done key_frame_pass pic list) h h₁ → WhileDecoding key_frame_pass pic (done key_frame_pass pic list) h₁
  key-frame-while-decoding = while-decoding key_frame_pass pic p

  pub inter-frame-while-decoding :
      (list : List (Call inter_frame_pass)) (h : LastLeft) → Calls inter_frame_pass pic (record { planes = p; start = 0 }) list h
      → (h₁ : LastLeft) → FurtherCalls inter_frame_pass pic (done inter_frame_pass pic list) h h₁ → WhileDecoding inter_frame_pass pic (done inter_frame_pass pic list) h₁
  inter-frame-while-decoding = while-decoding inter_frame_pass pic p
