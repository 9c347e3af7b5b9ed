-- What is made of texts, and how it is written.
use Rattle.std.proofs.Common.{ℕ, ◌≡◌, ◌≢◌, ◌≤◌, List, Option, Some, None, inl, inr, refl, arith, Result, Ok, Err, IfOk}
use Rattle.std.specs.declared.alloc.AllocError.{AllocError}
use Rattle.app_conditions.specs.declared.run.Made.{Made}
use Rattle.app_conditions.specs.declared.run.Made.TheVariants as M
use Rattle.std.specs.Io.KnownBytes.{Keeps}
use Rattle.app_command.specs.Outputs.{IsWrittenOut}
use Rattle.app_command.specs.declared.output.Ending.{Ending}
use Rattle.app_conditions.specs.Accepted.{AreAcceptedTexts, IsMadeOf, IsMadeWritten, IsRefusal}

made : (texts : List (List ℕ)) (m : Made) → AreAcceptedTexts texts → IsMadeOf texts m
made texts (M.Text text) accepted = accepted
made texts (M.Unshown text) accepted = accepted
made texts (M.Wrong text) accepted = tt
made texts (M.Deep text) accepted = tt

-- anything may be made of accepted texts
pub made_of_accepted : (texts : List (List ℕ)) (m : Result Made AllocError) → AreAcceptedTexts texts → IfOk m (IsMadeOf texts)
made_of_accepted texts (Ok m) accepted = made texts m accepted
made_of_accepted texts (Err e) accepted = tt

refusal : (texts : List (List ℕ)) (m : Made) → IsRefusal m → IsMadeOf texts m
refusal texts (M.Text text) is = absurd is
refusal texts (M.Unshown text) is = absurd is
refusal texts (M.Wrong text) is = tt
refusal texts (M.Deep text) is = absurd is

-- and what is wrong of any
pub refused_of_any : (texts : List (List ℕ)) (m : Result Made AllocError) → IfOk m IsRefusal → IfOk m (IsMadeOf texts)
refused_of_any texts (Ok m) is = refusal texts m is
refused_of_any texts (Err e) is = tt

module _ (old new : Option (List ℕ)) (ending : Ending) where
  -- a text that is written has its status, or 4
  text_status : (text : List ℕ) (status : ℕ) → status ≤ 1 → IsWrittenOut old new text status ending → (ending.status ≤ 4) × (ending.status ≢ 2)
  text_status text status low (inl whole) = let e = whole.0 in (omega (arith, low, e), λ two. omega (arith, low, e, two))
  text_status text status low (inr (some, inl cut)) = let e = cut.0 in (omega (arith, low, e), λ two. omega (arith, low, e, two))
  text_status text status low (inr (some, inr failed)) = let e = failed.0 in (omega (arith, e), λ two. omega (arith, e, two))

  -- so the status is at most 4, and never 2
  pub made_status : (m : Made) → IsMadeWritten m old new ending → (ending.status ≤ 4) × (ending.status ≢ 2)
  made_status (M.Text text) written = text_status _ 0 (omega arith) written
  made_status (M.Unshown text) written = text_status _ 1 (omega arith) written
  made_status (M.Wrong text) written = let e = written.0 in (omega (arith, e), λ two. omega (arith, e, two))
  made_status (M.Deep text) written = let e = written.0 in (omega (arith, e), λ two. omega (arith, e, two))

  -- and 0 only where the texts are accepted
  pub accepted_where_done : (texts : List (List ℕ)) (m : Made) → IsMadeOf texts m → IsMadeWritten m old new ending → ending.status ≡ 0 → AreAcceptedTexts texts
  accepted_where_done texts (M.Text text) made written none = made
  accepted_where_done texts (M.Unshown text) made written none = made
  accepted_where_done texts (M.Wrong text) made written none = let e = written.0 in absurd (omega (arith, e, none))
  accepted_where_done texts (M.Deep text) made written none = let e = written.0 in absurd (omega (arith, e, none))

-- a sink that nothing is written to
pub nothing_kept : (known : Option (List ℕ)) → Keeps known known
nothing_kept None = tt
nothing_kept (Some bytes) = refl
