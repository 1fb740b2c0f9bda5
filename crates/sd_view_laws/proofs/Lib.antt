mod Printed
mod LinesWritten
mod InOrder
mod LineByLine
