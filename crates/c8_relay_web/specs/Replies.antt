-- The responses that refuse a request, each with its status (RFC 9110, section 15) and the fields that it has to have.
use Rattle.std.specs.Prelude.{◌++◌, ℕ, List, [], codes}
use Rattle.c8_relay_web.specs.declared.reply.Refused.{Refused}
use Rattle.c8_relay_web.specs.declared.reply.Refused.TheVariants.{Bad, Origin, Missing, Method, NoUpgrade, TooLarge}

-- a response without a body: its status, its own fields, and what it says of the connection
abbrev pub empty_response : List ℕ → List ℕ → List ℕ → List ℕ
empty_response status fields connection =
    codes "HTTP/1.1 " ++ status ++ codes "\r\n" ++ fields ++ codes "content-length: 0\r\nconnection: " ++ connection ++ codes "\r\n\r\n"

-- 405 names the methods that there are, and 426 the protocol and its version
abbrev pub response_of : Refused → List ℕ
response_of Bad = empty_response (codes "400 Bad Request") [] (codes "close")
response_of Origin = empty_response (codes "403 Forbidden") [] (codes "close")
response_of Missing = empty_response (codes "404 Not Found") [] (codes "close")
response_of Method = empty_response (codes "405 Method Not Allowed") (codes "allow: GET, HEAD\r\n") (codes "close")
response_of NoUpgrade =
    empty_response (codes "426 Upgrade Required") (codes "upgrade: websocket\r\nsec-websocket-version: 13\r\n") (codes "Upgrade, close")
response_of TooLarge = empty_response (codes "431 Request Header Fields Too Large") [] (codes "close")
