use Rattle.check_trees.proofs.documents.+push_parts.Given as goal

-- what stands in a part stands less deep
abbrev pub decreases-push_parts : goal.decreases-push_parts
decreases-push_parts l = l.depth
