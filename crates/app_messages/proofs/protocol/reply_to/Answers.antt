use Rattle.std.proofs.Common.{rules, ◌≡◌, refl, ℕ, Bool, true, false, List}
use Rattle.std.specs.Prelude.{codes}
use Rattle.std.specs.Str.{bytes_eq}
use Rattle.std.proofs.lemmas.Slice.Eq.{bytes_eq-Decides}
use Rattle.app_messages.specs.Protocol.{reply}
use Rattle.app_messages.proofs.protocol.reply_to.Goals as goal

not_true : (b : Bool) → (b ≡ true → ⊥) → b ≡ false
not_true true never = absurd (never refl)
not_true false never = refl

is_other : (method name : List ℕ) → (method ≡ name → ⊥) → bytes_eq method name ≡ false
is_other method name other = not_true (bytes_eq method name) (λ same. other ((bytes_eq-Decides method name).0 same))

-- src/protocol.rt:59:1
pub returns-in_default-method : goal.returns-in_default-method
returns-in_default-method c =
    let method = c.args.method.now in
    rw (c.in-Open.is, is_other method (codes "initialize") c.in_default-method.not-initialize, is_other method (codes "shutdown") c.in_default-method.not-shutdown) c.asked_by.ensures
