-- The code of a term's tree, by the types of its program.
use Rattle.std.specs.Prelude.{ℕ, Bool, List}
use Rattle.model.specs.rules.Program.{Program, arg_types, is_multi}
use Rattle.model.specs.sites.Sites.{Site}
use Rattle.model.specs.trees.Trees.{Tree}
use Rattle.model_code.specs.Code.{Block}
use Rattle.model_code.specs.TreeCode.{tree_code}
use Rattle.model_code.specs.Flat.{flat}
use Rattle.model_code.specs.Modes.{Types, passes_of}
use Rattle.model_code.specs.Saving.{with_moves}
use Rattle.model_code.specs.SiteTypes.{types_of}
use Rattle.rust_code.specs.Labels.{is_deep}

-- with values handed on as these types ask, labels far in, and moves in place of clones
abbrev pub code_by : Types → Bool → List Site → Tree → Block
code_by types multi sites tree = with_moves types (flat (tree_code tree sites (passes_of types multi sites)) is_deep 0)

abbrev pub code_in_program : Program → ℕ → List Site → Tree → Block
code_in_program p t sites tree = code_by (types_of p (arg_types p t) sites) (is_multi p t) sites tree
