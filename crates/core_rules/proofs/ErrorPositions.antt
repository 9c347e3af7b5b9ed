-- Errors that stand at positions of what is read, or of templates: from a part to the whole, and one step after another.
use Rattle.std.proofs.Common.{ℕ, List, [], ◌∷◌, Result, Err, arith}
use Rattle.std.proofs.lemmas.Grind.{common_steps}
use Rattle.model.specs.lists.Syntax.{Position}
use Rattle.core_syntax.specs.declared.syntax.Error.{Error}
use Rattle.core_syntax.specs.declared.syntax.Pos.{Pos}
use Rattle.core_syntax.specs.Positions.{NotesAt, OccurAmong}
use Rattle.core_syntax.proofs.Positioned.{among_both, among_left, among_right, among_first, notes_both, notes_among, among_join}
use Rattle.core_terms.specs.TermViews.{term_views}
use Rattle.core_rules.specs.declared.term_env.TermEnv.{TermEnv}
use Rattle.core_rules.specs.declared.typing.progress.Stop.{Stop}
use Rattle.core_rules.specs.declared.typing.progress.Stop.TheVariants.{Memory}
use Rattle.core_rules.specs.declared.typing.progress.Progress.{Progress}
use Rattle.core_rules.specs.Progress.{Counts}
use Rattle.core_rules.specs.RuleLists.{NotesStop}
use Rattle.core_rules.specs.RulePositions.{templates_positions, with_templates, KeepsPlaced, StaysPlaced}

-- those of a part, and of the templates, are among those of the whole and of the templates
pub among_with : (env : TermEnv) (ps qs : List Position) → OccurAmong ps qs → OccurAmong (with_templates env ps) (with_templates env qs)
among_with env ps qs a =
    let templates = templates_positions env.expand_internal_extractors (term_views env.terms.items) in
    among_join ps templates (with_templates env qs) (among_both ps qs (with_templates env qs) a (among_left qs templates)) (among_right qs templates)

pub among_here : (env : TermEnv) (ps qs : List Position) → OccurAmong ps qs → OccurAmong ps (with_templates env qs)
among_here env ps qs a = among_both ps qs (with_templates env qs) a (among_left qs (templates_positions env.expand_internal_extractors (term_views env.terms.items)))

-- what is among those of the whole and of the templates already
pub among_made : (env : TermEnv) (ps qs : List Position) → OccurAmong ps (with_templates env qs) → OccurAmong (with_templates env ps) (with_templates env qs)
among_made env ps qs a =
    among_join ps (templates_positions env.expand_internal_extractors (term_views env.terms.items)) (with_templates env qs) a (among_right qs (templates_positions env.expand_internal_extractors (term_views env.terms.items)))

keeps_among : (ps qs : List Position) (a b : List Error) (stop : Stop) → OccurAmong ps qs → KeepsPlaced ps a b stop → KeepsPlaced qs a b stop
keeps_among ps qs a b (Memory e) h n = n
keeps_among ps qs a b _ h n = notes_among ps qs a b h n

keeps_after : (ps : List Position) (a b c : List Error) (stop : Stop) → NotesAt ps a b → KeepsPlaced ps b c stop → KeepsPlaced ps a c stop
keeps_after ps a b c stop m n = grind arith

module _ {X : Type 0} where
  pub stays_among : (ps qs : List Position) (a b : List Error) (r : Result X Stop) → OccurAmong ps qs → StaysPlaced ps a b r → StaysPlaced qs a b r
  stays_among ps qs a b r h n = grind (arith, common_steps, notes_among)

  pub stays_after : (ps : List Position) (a b c : List Error) (r : Result X Stop) → NotesAt ps a b → StaysPlaced ps b c r → StaysPlaced ps a c r
  stays_after ps a b c r m n = grind (arith, common_steps, notes_both)

  -- what stands at the first position
  pub stays_head : (env : TermEnv) (p : Position) (ps : List Position) (a b : List Error) (r : Result X Stop) → StaysPlaced (p ∷ []) a b r → StaysPlaced (with_templates env (p ∷ ps)) a b r
  stays_head env p ps a b r n = stays_among (p ∷ []) (with_templates env (p ∷ ps)) a b r (among_here env (p ∷ []) (p ∷ ps) (among_first p ps)) n

  -- one step after another, each of a part
  pub stays_step : (ps qs all : List Position) (a b c : List Error) (r : Result X Stop) → OccurAmong ps all → OccurAmong qs all → NotesAt ps a b → StaysPlaced qs b c r → StaysPlaced all a c r
  stays_step ps qs all a b c r g h m n = stays_after all a b c r (notes_among ps all a b g m) (stays_among qs all b c r h n)

-- the same where the work ended
pub stop_among : (ps qs : List Position) (a b : List Error) (stop : Stop) → OccurAmong ps qs → KeepsPlaced ps a b stop → KeepsPlaced qs a b stop
stop_among ps qs a b stop h n = keeps_among ps qs a b stop h n

pub stop_step : (ps qs all : List Position) (a b c : List Error) (stop : Stop) → OccurAmong ps all → OccurAmong qs all → NotesAt ps a b → KeepsPlaced qs b c stop → KeepsPlaced all a c stop
stop_step ps qs all a b c stop g h m n = keeps_after all a b c stop (notes_among ps all a b g m) (keeps_among qs all b c stop h n)

-- a limit that ended the work is noted after what else was
pub stop_noted : (ps all : List Position) (a b c : List Error) (at : Pos) (stop : Stop) → OccurAmong ps all → KeepsPlaced all a b stop → NotesAt ps b c → NotesStop stop at b c → NotesAt all a c
stop_noted ps all a b c at stop h n m s = grind (arith, common_steps, notes_among ps all b c h m)

-- an expansion that isn't made
pub counted_stop : (ps : List Position) (n : ℕ) (old new : Progress) (stop : Stop) → Counts n old new (Err stop) → KeepsPlaced ps old.errors.items new.errors.items stop
counted_stop ps n old new stop c = grind arith
