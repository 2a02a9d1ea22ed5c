-- The theorem at the computed lists of calls.
use Rattle.calls.specs.Pass.{key_pass, inter_pass}
use Rattle.calls.specs.Calls.{Promise}
use Rattle.calls.specs.Smoothed.{PartsPromise}
use Rattle.calls.specs.ExampleCalls.{left, key_picture, key_list, key₀, key₂, inter_picture, inter_list, inter₀, inter₁}
use Rattle.calls.proofs.CallExamples.{shown}
use Rattle.calls.proofs.Demand3.{key-pass-calls, inter-pass-calls}
use Rattle.calls.proofs.Parts.{key-parts, inter-parts}

pub key-promised : Promise key_pass key_picture key₀ key_list (left key₂ 2)
key-promised = key-pass-calls key_picture key₀ key_list (left key₂ 2) shown.key.list

pub inter-promised : Promise inter_pass inter_picture inter₀ inter_list (left inter₁ 1)
inter-promised = inter-pass-calls inter_picture inter₀ inter_list (left inter₁ 1) shown.inter.list

pub key-parts-promised : PartsPromise key_pass key_picture key₀ key_list
key-parts-promised = key-parts key_picture key₀ key_list (left key₂ 2) shown.key.list

pub inter-parts-promised : PartsPromise inter_pass inter_picture inter₀ inter_list
inter-parts-promised = inter-parts inter_picture inter₀ inter_list (left inter₁ 1) shown.inter.list
