-- Replies as bytes.
use Rattle.std.specs.Prelude.{ℕ, ◌==◌, List, [], ◌++◌, length, unwrap_or, if◌then◌else◌, codes, decimal}
use Rattle.http.specs.StatusCode.{reason_phrase}

-- the phrase of a status, as its registry has it
abbrev pub phrase : ℕ → List ℕ
phrase status = unwrap_or (reason_phrase status) []

-- which methods there are, where the method was refused
abbrev pub allow_line : ℕ → List ℕ
allow_line status = if status == 405 then codes "allow: GET, POST\r\n" else []

-- what stands before a body of this size
abbrev pub head_text : ℕ → ℕ → List ℕ
head_text status size =
    codes "HTTP/1.1 " ++ (decimal status ++ (codes " " ++ (phrase status ++ (codes "\r\n"
    ++ (codes "content-type: application/json\r\n"
    ++ (codes "content-length: " ++ (decimal size ++ (codes "\r\n"
    ++ (allow_line status
    ++ codes "connection: close\r\n\r\n")))))))))

-- a reply of this status with this body
abbrev pub reply_text : ℕ → List ℕ → List ℕ
reply_text status body = head_text status (length body) ++ body
