-- Rows of limits: the most bytes of the texts of a line and of a header.
use Rattle.mime_text.proofs.Words.{◌≡◌, refl}
use Rattle.mime_text.specs.Limits.{most_in_line_text, most_in_header_text}

bytes_of_the_text_of_a_line : most_in_line_text ≡ 196611
bytes_of_the_text_of_a_line = refl

bytes_of_a_text_of_a_header : most_in_header_text ≡ 786432
bytes_of_a_text_of_a_header = refl
