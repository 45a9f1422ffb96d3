mod OnlyOne
mod OnlyOneExported
