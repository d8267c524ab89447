-- The short way through refusal 15: rows whose numbers rise. It lets nothing through that `sound_at` refuses (proofs/QuickLaws).
use Rattle.std.specs.Prelude.{ℕ, ◌&&◌, Bool, List, [], leb, ltb, take}
use Rattle.numbers.specs.Choose.{pick}
use Rattle.text.specs.declared.names.Name.{Name}
use Rattle.tables.specs.Tables.{rises_from}
use Rattle.image.specs.Image.{cell, fits32}

abbrev pub row_number : List ℕ → ℕ
row_number row = cell row 0

-- a row that names no case, or does not fit, is one whose name is too long
abbrev pub weighed : Bool → ℕ → Name
weighed fine len = record { bytes = []; len = pick fine len 129 }

abbrev pub stream_weight : List ℕ → Name
stream_weight row = weighed (ltb (cell row 1) 4 && ltb (cell row 2) 3) (cell row 3)

abbrev pub request_weight : List ℕ → Name
request_weight row = weighed (ltb (cell row 1) 3 && (fits32 (cell row 2) && ltb (cell row 3) 3)) (cell row 5)

unfoldable pub quick_at : List ℕ → List (List ℕ) → List (List ℕ) → Bool
quick_at facts streams requests =
    leb (cell facts 1) 128
    && (leb (cell facts 4) 128
    && (leb (cell facts 8) 16
    && (leb (cell facts 9) 16
    && (rises_from row_number stream_weight (cell facts 6) 0 (take (cell facts 8) streams) && rises_from row_number request_weight (cell facts 7) 0 (take (cell facts 9) requests)))))
