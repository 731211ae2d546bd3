-- The symbols that a reader of base64 holds, and the bytes that it has still to give.
use Rattle.std.specs.Prelude.{ℕ, List, ◌++◌, take, if◌then◌else◌}
use Rattle.header_text.specs.Base64.{bytes_of_symbols, base64_bytes}
use Rattle.header_text.specs.declared.base64_groups.Held.{Held}
use Rattle.header_text.specs.declared.base64_reader.Base64.{Base64}

-- the symbols that are held
abbrev pub symbols_of : Held → List ℕ
symbols_of held = take held.count held.symbols

-- the bytes that the held symbols and later text still give
abbrev pub bytes_to_come : Base64 → List ℕ → List ℕ
bytes_to_come reader later =
    if reader.ended then bytes_of_symbols (symbols_of reader.held) else base64_bytes (symbols_of reader.held ++ later)
