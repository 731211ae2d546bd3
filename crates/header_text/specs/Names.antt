-- Names of fields, parameters, types and charsets.
use Rattle.std.specs.Prelude.{ℕ, Bool, List, Option, option_map}
use Rattle.std.specs.List.{find}
use Rattle.std.specs.Str.{str_eq_ignore_ascii_case}
use Rattle.header_text.specs.Headers.{HeaderField}

-- whether the name is the wanted one; names are compared without regard to ASCII case (RFC 5322, 1.2.2; RFC 2045, 5.1)
abbrev pub is_named : List ℕ → List ℕ → Bool
is_named name wanted = str_eq_ignore_ascii_case name wanted

-- the body of the first field with a name, if there is one
abbrev pub first_body : List ℕ → List HeaderField → Option (List ℕ)
first_body name fields = option_map (λ f. f.body) (find (λ f. is_named f.name name) fields)
