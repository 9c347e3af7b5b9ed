use Rattle.std.proofs.Common.{◌≡◌, ◌||◌, ℕ, take}
use Rattle.core_containers.specs.Places.{is_in, Extends}
use Rattle.core_containers.proofs.stacks.Stack.insert_all.Given as goal

abbrev pub invariant-loop-number : goal.invariant-loop-number
invariant-loop-number l = record {
  added : (n : ℕ) → is_in n l.self ≡ (is_in n (take l.number-index l.numbers) || is_in n l.initial.self);
  grown : Extends l.initial.self l.self;
}
