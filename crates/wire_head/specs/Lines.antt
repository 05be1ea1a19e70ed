-- The lines of a response that every port sends.
use Rattle.std.specs.Prelude.{◌==◌, ℕ, List, [], ◌++◌, codes, if◌then◌else◌}
use Rattle.std.specs.Fmt.{decimal}

-- A line with CR and LF.
abbrev pub line : List ℕ → List ℕ
line text = text ++ codes "\r\n"

-- The reason phrase of a status.
unfoldable pub reason_of : ℕ → List ℕ
reason_of status =
    if status == 200 then codes "OK"
    else (if status == 201 then codes "Created"
    else (if status == 400 then codes "Bad Request"
    else (if status == 401 then codes "Unauthorized"
    else (if status == 403 then codes "Forbidden"
    else (if status == 404 then codes "Not Found"
    else (if status == 405 then codes "Method Not Allowed"
    else (if status == 409 then codes "Conflict"
    else (if status == 413 then codes "Content Too Large"
    else (if status == 431 then codes "Request Header Fields Too Large"
    else (if status == 500 then codes "Internal Server Error"
    else (if status == 501 then codes "Not Implemented"
    else (if status == 503 then codes "Service Unavailable" else []))))))))))))

-- The status line, with the reason phrase.
unfoldable pub status_line : ℕ → List ℕ
status_line status = line (codes "HTTP/1.1 " ++ decimal status ++ codes " " ++ reason_of status)

-- The line with the length of the body.
unfoldable pub length_line : ℕ → List ℕ
length_line size = line (codes "Content-Length: " ++ decimal size)
