-- Steps of lists of sorts.
use Rattle.std.proofs.lemmas.List.{append_assoc, append-nil}

pub ruleset sort_steps = (append_assoc, append-nil)
