-- `add_archive_paths` appends the path of each name, because after its loop no name is left.
use Rattle.mairix_options.proofs.Words.{string_bytes, arith, refl, ap, ◌∙◌, ◌++◌, archive_path}
use Rattle.mairix_options.proofs.Searches.{map-each-taken}
use Rattle.mairix_options.proofs.path.add_archive_paths.Goals as goal

pub returns : goal.returns
returns c =
    c.loop-name.invariant
    ∙ ap (λ added. c.args.paths.now ++ added)
    (map-each-taken string_bytes (archive_path c.args.base.now) c.loop-name.name-index c.as_slice-written.result.now
    c.args.names.now _
    (omega (arith, c.loop-name-test.false)) c.as_slice-written.ensures refl)
