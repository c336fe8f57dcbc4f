-- The meaning of the type `Token` of `src/token.rt`.
use Rattle.program_tree.specs.declared.token.Token.{Token as TokenRead}
use Rattle.program_tree.specs.declared.token.Token.TheVariants as read
use Rattle.program_tree.specs.Tokens.{Token, Keyword, Semicolon, Comma, Equals, Bang, Open, Close, OpenBrace}
use Rattle.program_tree.specs.Tokens.{CloseBrace, Op, Name, Number, Bad}

-- the meaning of a token that was read
abbrev pub token_of : TokenRead → Token
token_of (read.Keyword k) = Keyword k
token_of read.Semicolon = Semicolon
token_of read.Comma = Comma
token_of read.Equals = Equals
token_of read.Bang = Bang
token_of read.Open = Open
token_of read.Close = Close
token_of read.OpenBrace = OpenBrace
token_of read.CloseBrace = CloseBrace
token_of (read.Op o) = Op o
token_of (read.Name n) = Name n.now
token_of (read.Number n) = Number n
token_of read.Bad = Bad
