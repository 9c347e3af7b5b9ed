use Rattle.std.proofs.Common.{rules, ◌≡◌, IsTrue, [], length, refl, inl}
use Rattle.std.proofs.lemmas.List.Elements.{All-head}
use Rattle.model.specs.lists.Names.{has_name}
use Rattle.core_syntax.specs.SyntaxViews as views
use Rattle.core_types.specs.Envs.{names_of}
use Rattle.core_types.proofs.FillingTypes.{type_pushed}
use Rattle.core_types.proofs.type_env.TypeEnv.fill_definition.Goals as goal

pub returns-in_ok-push-clause-fills : goal.returns-in_ok-push-clause-fills
returns-in_ok-push-clause-fills c =
    let place : c.len.result ≡ length c.args.self.now.types.items = search rules in
    λ defs s met.
    let own = All-head (λ x. IsTrue (has_name (names_of c.args.self.now) x)) _ [] (rw c.in-TypeDef.is at met) in
    let r = rw c.in-Some.is at c.in_ok-read.ensures.reads defs s own in
    rw c.in-TypeDef.is
    (inl (r.0, type_pushed defs (views.type_view c.in-TypeDef.ty) c.len.result c.in-Some.read c.args.self.now c.read_type.new.self _ r.1 r.2 r.3 place refl refl refl refl c.in_ok-push.ensures.items))
