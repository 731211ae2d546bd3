-- The proofs of worked_parts: what callers of its crates know. Proofs of single functions are in folders named after
-- these.
mod Tallies
